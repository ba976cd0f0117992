use Rattle.cell_ascii_law_faults.proofs.GridFaultLemmas.{end_agrees}
use Rattle.cell_ascii_law_faults.proofs.law.end_read_fails_with_first_fault.Goals as goal

pub returns : goal.returns
returns c = end_agrees
