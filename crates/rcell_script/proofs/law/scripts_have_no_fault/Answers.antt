use Rattle.rcell_script.proofs.LawLemmas.{scripts_have_no_fault}
use Rattle.rcell_script.proofs.law.scripts_have_no_fault.Goals as goal

pub returns : goal.returns
returns c = scripts_have_no_fault c.tokens_denote_one_assignment.ensures
