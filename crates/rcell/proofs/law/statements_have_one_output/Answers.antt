use Rattle.rcell.proofs.OutputLemmas.{one_output}
use Rattle.rcell.proofs.law.statements_have_one_output.Goals as goal

pub returns : goal.returns
returns c = one_output c.clump_map_is_unique.ensures
