-- The measures of a tile's patches in the full map, given a map that contains the tile and the map of the tile's patch
-- numbers (r.clump).
use Rattle.std.specs.Prelude.{ℕ, pos, ◌+◌, ◌-◌, ◌<◌, ◌≤◌, ◌≡◌, ◌⊎◌, true, List, length, Some, slice_get, if◌then◌else◌}
use Rattle.cell_core_values.specs.Cell.{cell_eq}
use Rattle.cell_core_values.specs.Region.{RegionValue}
use Rattle.cell_core.specs.Grid.{Grid, CellValue, cell_at}
use Rattle.cell_clumps.specs.declared.clump.Joining.{Joining}
use Rattle.cell_clumps.specs.Clumps.{IsClumpMapOf}
use Rattle.cell_patches.specs.declared.patch.Patch.{Patch}
use Rattle.cell_patches.specs.declared.tile_position.TilePosition.{TilePosition}
use Rattle.cell_patches.specs.Patches.{is_in_patch, north_cell_in_map_or_null, west_cell_in_map_or_null}
use Rattle.cell_patches.specs.Patches.{value_or_0_outside_patch, do_cells_within_steps_have_value, sum_over_cells}
use Rattle.cell_patches.specs.Patches.{IsSmallestWithProperty, IsLargestWithProperty}
use Rattle.cell_patches.specs.Patches.{PatchHasCellInRow, PatchHasCellInColumn}

-- 1 if a side of a cell leads to another category, to null or outside the map; otherwise 0
abbrev pub one_if_side_leaves_category : CellValue → CellValue → ℕ
one_if_side_leaves_category cell beyond = if cell_eq beyond cell then 0 else 1

-- the north and south sides of a cell that lead out of its category, and the west and east sides
abbrev pub outer_north_south_side_count_of_cell : Grid → ℕ → ℕ → ℕ
outer_north_south_side_count_of_cell m r c =
    one_if_side_leaves_category (cell_at m r c) (north_cell_in_map_or_null m r c)
    + one_if_side_leaves_category (cell_at m r c) (cell_at m (r + 1) c)

abbrev pub outer_west_east_side_count_of_cell : Grid → ℕ → ℕ → ℕ
outer_west_east_side_count_of_cell m r c =
    one_if_side_leaves_category (cell_at m r c) (west_cell_in_map_or_null m r c)
    + one_if_side_leaves_category (cell_at m r c) (cell_at m r (c + 1))

-- 1 if all cells within `depth` steps across edges have the category of the cell, and none is outside the map;
-- otherwise 0
abbrev pub one_if_cell_is_core : Grid → ℕ → ℕ → ℕ → ℕ
one_if_cell_is_core m depth r c = if do_cells_within_steps_have_value m (cell_at m r c) depth r c then 1 else 0

-- a sum over the cells of a tile's patch, of values at these cells in the map that contains the tile
abbrev pub sum_over_cells_of_tile_patch : TilePosition → Grid → ℕ → (ℕ → ℕ → ℕ) → ℕ
sum_over_cells_of_tile_patch position numbers n f =
    sum_over_cells numbers.region
    (λ r c. value_or_0_outside_patch numbers n r c (f (position.top + r) (position.left + c)))

-- the tile's patch has a cell in this row, or in this column, of the full map
abbrev pub TilePatchHasCellInRow : TilePosition → Grid → ℕ → ℕ → Type 0
TilePatchHasCellInRow position numbers n row = (r : ℕ) × (row ≡ position.first_row + r) × PatchHasCellInRow numbers n r

abbrev pub TilePatchHasCellInColumn : TilePosition → Grid → ℕ → ℕ → Type 0
TilePatchHasCellInColumn position numbers n col =
    (c : ℕ) × (col ≡ position.first_col + c) × PatchHasCellInColumn numbers n c

-- the measures in the full map of patch number n of a tile: its category and number of cells, its ends and flanks, the
-- number of cells that are `depth` steps inside their category, and its first and last rows and columns
pub record AreMeasuresOfPatchInTile (m : Grid) (position : TilePosition) (numbers : Grid) (depth n : ℕ)
    (patch : Patch) : Type 0 where
  pub class : (r c : ℕ) → is_in_patch numbers n r c ≡ true
      → cell_at m (position.top + r) (position.left + c) ≡ Some patch.class
  pub cells : patch.cells ≡ sum_over_cells_of_tile_patch position numbers n (λ r c. 1)
  pub ends : patch.ends ≡ sum_over_cells_of_tile_patch position numbers n (outer_north_south_side_count_of_cell m)
  pub flanks : patch.flanks ≡ sum_over_cells_of_tile_patch position numbers n (outer_west_east_side_count_of_cell m)
  pub core : patch.core ≡ sum_over_cells_of_tile_patch position numbers n (one_if_cell_is_core m depth)
  pub first_row : IsSmallestWithProperty (TilePatchHasCellInRow position numbers n) patch.first_row
  pub last_row : IsLargestWithProperty (TilePatchHasCellInRow position numbers n) patch.last_row
  pub first_col : IsSmallestWithProperty (TilePatchHasCellInColumn position numbers n) patch.first_col
  pub last_col : IsLargestWithProperty (TilePatchHasCellInColumn position numbers n) patch.last_col

-- the measures of all patches of a tile, in the order of their numbers, which start at 1
pub record AreMeasuresOfAllPatchesInTile (m : Grid) (position : TilePosition) (numbers : Grid) (depth : ℕ)
    (patches : List Patch) : Type 0 where
  pub each : (k : ℕ) (patch : Patch) → slice_get patches k ≡ Some patch
      → AreMeasuresOfPatchInTile m position numbers depth (k + 1) patch
  pub all : (r c n : ℕ) → cell_at numbers r c ≡ Some (pos n) → n ≤ length patches

-- the tile has the cells of the map at its position, and `numbers` is its clump map
pub record IsClumpMapOfTile (j : Joining) (m : Grid) (position : TilePosition) (numbers : Grid) : Type 0 where
  pub tile : Grid
  pub cells : (r c : ℕ) → r < tile.region.rows → c < tile.region.cols
      → cell_at tile r c ≡ cell_at m (position.top + r) (position.left + c)
  pub clumping : IsClumpMapOf j tile numbers

-- a tile of this size is inside the map, and its last row and column in the full map have numbers
pub record IsTileInsideMap (region : RegionValue) (position : TilePosition) (tile : RegionValue) : Type 0 where
  pub rows : position.top + tile.rows ≤ region.rows
  pub cols : position.left + tile.cols ≤ region.cols
  pub last_row : position.first_row + tile.rows < 4294967296
  pub last_col : position.first_col + tile.cols < 4294967296

-- a row or column is at most `depth` before or after a tile that begins at `start` and has `size` rows or columns
pub record IsNearTile (depth start size i : ℕ) : Type 0 where
  pub before : start ≤ i + depth
  pub after : i < start + size + depth

-- within `depth` rows and columns of a tile of this size, the map `part` has the cells of the full map, and null where
-- the full map ends; above the tile and on its left, it has all these rows and columns that the full map has
pub record ContainsTileWithHalo (whole part : Grid) (position : TilePosition) (tile : RegionValue) (depth : ℕ) : Type 0
  where
    pub cells : (r c : ℕ) → IsNearTile depth position.top tile.rows r → IsNearTile depth position.left tile.cols c
        → cell_at part r c
        ≡ cell_at whole (position.first_row - position.top + r) (position.first_col - position.left + c)
    pub top : position.top ≤ position.first_row
    pub left : position.left ≤ position.first_col
    pub north : (position.top ≡ position.first_row) ⊎ (depth ≤ position.top)
    pub west : (position.left ≡ position.first_col) ⊎ (depth ≤ position.left)

-- the position of a full map in itself, and of a tile in its full map
abbrev pub position_of_full_map : TilePosition
position_of_full_map = record { top = 0; left = 0; first_row = 0; first_col = 0 }

abbrev pub position_in_its_full_map : TilePosition → TilePosition
position_in_its_full_map position = record {
  top = position.first_row;
  left = position.first_col;
  first_row = position.first_row;
  first_col = position.first_col;
}
