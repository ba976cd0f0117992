use Rattle.rcell.proofs.OutputLemmas.{script_in_parts_has_same_output}
use Rattle.rcell.proofs.law.script_in_parts_has_same_output.Goals as goal

pub returns : goal.returns
returns c = script_in_parts_has_same_output
