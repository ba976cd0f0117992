use Rattle.cell_join_numbers.proofs.GridLemmas.{grids-cover}
use Rattle.cell_join_numbers.proofs.tiles_law.tile_grid_covers_each_cell_once.Goals as goal

pub returns : goal.returns
returns c = grids-cover
