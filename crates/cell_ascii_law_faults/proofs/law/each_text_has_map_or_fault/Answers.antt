use Rattle.cell_ascii_law_faults.proofs.GridFaultLemmas.{texts_are_judged}
use Rattle.cell_ascii_law_faults.proofs.law.each_text_has_map_or_fault.Goals as goal

pub returns : goal.returns
returns c = texts_are_judged
