-- What joined measures say about a patch whose cells are divided among the patches of tiles.
use Rattle.std.specs.BTreeMap.{is_at}
use Rattle.std.specs.List.{AllZip}
use Rattle.std.specs.Map.{lookup}
use Rattle.std.specs.Ordering.{nat_cmp}
use Rattle.std.specs.Prelude.{ℕ, ◌≡◌, ◌+◌, ◌-◌, ◌≤◌, ◌&&◌, nat_le, Bool, List, All, Some, count_by, if◌then◌else◌}
use Rattle.cell_clumps.specs.declared.clump.Joining.{Joining}
use Rattle.cell_clumps.specs.Clumps.{IsClumpMapOf}
use Rattle.cell_core.specs.Grid.{Grid, RowsFillRegion}
use Rattle.cell_join_patches.specs.declared.part.PatchOfTile.{PatchOfTile}
use Rattle.cell_join_patches.specs.JoinedPatches.{AreJoinedPatches, parts_of_patch}
use Rattle.cell_patches.specs.declared.patch.Patch.{Patch}
use Rattle.cell_patches.specs.declared.tile_position.TilePosition.{TilePosition}
use Rattle.cell_patches.specs.Patches.{AreMeasuresOfPatch, is_in_patch}
use Rattle.cell_patches.specs.TilePatches.{AreMeasuresOfPatchInTile, position_in_its_full_map}

-- a patch of a tile: the tile's position, the map of its patch numbers, and the number of the patch
pub record PatchPlace : Type 0 where
  pub position : TilePosition
  pub numbers : Grid
  pub number : ℕ

-- the tile's patch has the cell in this row and column of the full map
abbrev pub place_has_cell : (row col : ℕ) → PatchPlace → Bool
place_has_cell row col p =
    nat_le p.position.first_row row
    && (nat_le p.position.first_col col
    && is_in_patch p.numbers p.number (row - p.position.first_row) (col - p.position.first_col))

-- the tile is inside the full map
pub record IsTileInsideFullMap (full : Grid) (p : PatchPlace) : Type 0 where
  pub filled : RowsFillRegion p.numbers.region p.numbers.rows
  pub rows : p.position.first_row + p.numbers.region.rows ≤ full.region.rows
  pub cols : p.position.first_col + p.numbers.region.cols ≤ full.region.cols

-- each cell of patch n of the full map is in exactly one of the tiles' patches, and no other cell is in one
pub record PlacesMakeUpPatch (numbers : Grid) (n : ℕ) (places : List PatchPlace) : Type 0 where
  pub inside : All (IsTileInsideFullMap numbers) places
  pub once : (row col : ℕ) → count_by (place_has_cell row col) places
      ≡ (if is_in_patch numbers n row col then 1 else 0)

-- the part has the measures of the tile's patch in the full map
abbrev pub HasMeasuresInFullMap : Grid → ℕ → PatchPlace → Patch → Type 0
HasMeasuresInFullMap m depth p part =
    AreMeasuresOfPatchInTile m (position_in_its_full_map p.position) p.numbers depth p.number part

-- if tiles' patches make up patch n of the full map, and the parts with number n have their measures in the full map,
-- the joined patch with number n has the measures of patch n
abbrev pub JoinedPatchesHavePatchMeasures : Type 0
JoinedPatchesHavePatchMeasures = (j : Joining) (m numbers : Grid) (depth n : ℕ) → IsClumpMapOf j m numbers
    → (places : List PatchPlace) → PlacesMakeUpPatch numbers n places
    → (parts : List PatchOfTile) → AllZip (HasMeasuresInFullMap m depth) places (parts_of_patch n parts)
    → (patches : List (ℕ × Patch)) → AreJoinedPatches parts patches
    → (patch : Patch) → lookup (is_at (nat_cmp n)) patches ≡ Some patch → AreMeasuresOfPatch m numbers depth n patch
