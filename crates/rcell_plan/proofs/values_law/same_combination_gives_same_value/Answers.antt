use Rattle.rcell_plan.proofs.LocalLemmas.{one-value-a-combination}
use Rattle.rcell_plan.proofs.values_law.same_combination_gives_same_value.Goals as goal

pub returns : goal.returns
returns c = one-value-a-combination
