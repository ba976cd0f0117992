use Rattle.std.proofs.Common.{sym}
use Rattle.cell_patches.specs.TilePatches.{IsClumpMapOfTile}
use Rattle.cell_patches.proofs.FullMapLemmas.{class_is}
use Rattle.cell_stats_tests.proofs.tests.patches_worked.only_tile_has_rows_and_columns_of_full_map.Goals as goal

-- the map is its only tile
pub patch_measures_in_tile-requires-clause-clumping : goal.patch_measures_in_tile-requires-clause-clumping
patch_measures_in_tile-requires-clause-clumping g c = record {
  tile = c.in_ok-map.map;
  cells = λ row col _ _. sym (class_is c.in_ok-map.map row col);
  clumping = c.in_ok-numbers.ensures;
}
