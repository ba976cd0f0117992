use Rattle.rcell_script.proofs.LawLemmas.{text_denotes_at_most_one_script}
use Rattle.rcell_script.proofs.law.text_denotes_at_most_one_script.Goals as goal

pub returns : goal.returns
returns c = text_denotes_at_most_one_script c.tokens_denote_one_assignment.ensures
