use Rattle.cell_cats_law.proofs.TileSizeLemmas.{tile-sizes-count-cells}
use Rattle.cell_cats_law.proofs.sizes_law.tile_clump_sizes_add_up.Goals as goal

pub returns : goal.returns
returns c = tile-sizes-count-cells
