use Rattle.rcell_script.proofs.LawLemmas.{reading-denotes}
use Rattle.rcell_script.proofs.law.script_reading_matches_meaning.Goals as goal

pub returns : goal.returns
returns c = reading-denotes
