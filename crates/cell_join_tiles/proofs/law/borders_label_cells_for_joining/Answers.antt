use Rattle.cell_join_tiles.proofs.NumberLemmas.{borders-are-labelled}
use Rattle.cell_join_tiles.proofs.law.borders_label_cells_for_joining.Goals as goal

pub returns : goal.returns
returns c = borders-are-labelled
