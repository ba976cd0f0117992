use Rattle.cell_join_tiles.proofs.NumberLemmas.{cells-bear-labels}
use Rattle.cell_join_tiles.proofs.law.cut_map_cells_have_clump_labels.Goals as goal

pub returns : goal.returns
returns c = cells-bear-labels
