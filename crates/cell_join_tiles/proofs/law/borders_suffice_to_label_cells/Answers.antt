use Rattle.cell_join_tiles.proofs.JoinedLemmas.{grids-are-labelled}
use Rattle.cell_join_tiles.proofs.law.borders_suffice_to_label_cells.Goals as goal

pub returns : goal.returns
returns c = grids-are-labelled
