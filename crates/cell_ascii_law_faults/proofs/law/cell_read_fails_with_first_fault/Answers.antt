use Rattle.cell_ascii_law_faults.proofs.GridFaultLemmas.{cells_agree}
use Rattle.cell_ascii_law_faults.proofs.law.cell_read_fails_with_first_fault.Goals as goal

pub returns : goal.returns
returns c = cells_agree
