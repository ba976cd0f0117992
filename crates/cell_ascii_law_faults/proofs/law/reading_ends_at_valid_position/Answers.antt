use Rattle.cell_ascii_law_faults.proofs.GridFaultLemmas.{opening_keeps_places, cells_keep_places}
use Rattle.cell_ascii_law_faults.proofs.law.reading_ends_at_valid_position.Goals as goal

pub returns : goal.returns
returns c = record { opening = opening_keeps_places; cells = cells_keep_places }
