use Rattle.rcell_plan.proofs.LocalLemmas.{local-goes-by-combinations}
use Rattle.rcell_plan.proofs.values_law.combination_determines_value.Goals as goal

pub returns : goal.returns
returns c = local-goes-by-combinations
