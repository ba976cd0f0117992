use Rattle.cell_ascii_law_faults.proofs.GridFaultLemmas.{faults_agree}
use Rattle.cell_ascii_law_faults.proofs.law.text_read_fails_with_first_fault.Goals as goal

pub returns : goal.returns
returns c = faults_agree
