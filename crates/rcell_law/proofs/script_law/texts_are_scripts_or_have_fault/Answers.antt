use Rattle.rcell_law.proofs.Judged.{texts_are_judged}
use Rattle.rcell_law.proofs.script_law.texts_are_scripts_or_have_fault.Goals as goal

pub returns : goal.returns
returns c = texts_are_judged
