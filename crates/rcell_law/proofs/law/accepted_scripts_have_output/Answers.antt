use Rattle.rcell_law.proofs.AcceptedLemmas.{accepted_scripts_have_output}
use Rattle.rcell_law.proofs.law.accepted_scripts_have_output.Goals as goal

pub returns : goal.returns
returns c = accepted_scripts_have_output
