use Rattle.cell_join_tiles.proofs.TileNumberLemmas.{tile-numbers-are-listed}
use Rattle.cell_join_tiles.proofs.law.clump_numbers_are_listed_by_tile.Goals as goal

pub returns : goal.returns
returns c = tile-numbers-are-listed
