use Rattle.cell_ascii_law_faults.proofs.GridFaultLemmas.{opening_agrees}
use Rattle.cell_ascii_law_faults.proofs.law.header_read_fails_with_first_fault.Goals as goal

pub returns : goal.returns
returns c = opening_agrees
