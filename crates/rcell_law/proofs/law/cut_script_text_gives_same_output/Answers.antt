use Rattle.rcell_law.proofs.JoinedLemmas.{cut_script_text_gives_same_output}
use Rattle.rcell_law.proofs.law.cut_script_text_gives_same_output.Goals as goal

pub returns : goal.returns
returns c = cut_script_text_gives_same_output
