use Rattle.rcell_law.proofs.ExistLemmas.{fitting_statements_have_output}
use Rattle.rcell_law.proofs.law.fitting_statements_have_output.Goals as goal

pub returns : goal.returns
returns c = fitting_statements_have_output
