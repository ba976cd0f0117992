use Rattle.cell_join_tiles.proofs.BorderLemmas.{labels-follow-first-cells}
use Rattle.cell_join_tiles.proofs.law.labels_follow_first_cells.Goals as goal

pub returns : goal.returns
returns c = labels-follow-first-cells
