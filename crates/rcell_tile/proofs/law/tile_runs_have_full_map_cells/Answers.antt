use Rattle.rcell_tile.proofs.TileRunLemmas.{tile-runs}
use Rattle.rcell_tile.proofs.law.tile_runs_have_full_map_cells.Goals as goal

pub returns : goal.returns
returns c = tile-runs
