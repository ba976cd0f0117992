-- Properties of patches while the cells of a map are read, row by row.
use Rattle.std.specs.Prelude.{ℕ, ℤ, zero, suc, pos, ◌&&◌, ◌+◌, ◌-◌, ◌<◌, ◌≤◌, ◌≡◌, ◌≢◌, ◌⊎◌, ◌↔◌, Bool, true, nat_le}
use Rattle.std.specs.Prelude.{List, length, Some, None, min, max, slice_index_or, if◌then◌else◌}
use Rattle.cell_core_values.specs.Cell.{cell_eq}
use Rattle.cell_core.specs.Grid.{Grid, CellValue, RowsFillRegion, cell_at}
use Rattle.cell_core.specs.Runs.{RunValue}
use Rattle.cell_patches.specs.declared.patch.Patch.{Patch}
use Rattle.cell_patches.specs.declared.patch.RunContribution.{RunContribution}
use Rattle.cell_patches.specs.declared.near_rows.RowsAroundRow.{RowsAroundRow}
use Rattle.cell_patches.specs.declared.tile_position.TilePosition.{TilePosition}
use Rattle.cell_patches.specs.Patches.{is_in_patch, value_or_0_outside_patch, do_cells_within_steps_have_value}
use Rattle.cell_patches.specs.Patches.{sum_over_first_columns, sum_over_cells_of_first_rows}
use Rattle.cell_patches.specs.TilePatches.{IsTileInsideMap, TilePatchHasCellInRow, TilePatchHasCellInColumn}
use Rattle.cell_patches.specs.TilePatches.{one_if_side_leaves_category, outer_north_south_side_count_of_cell}
use Rattle.cell_patches.specs.TilePatches.{outer_west_east_side_count_of_cell, one_if_cell_is_core}

-- the measures of a patch of which no cell was read
abbrev pub unread : Patch
unread = record {
  class = pos 0;
  cells = 0;
  ends = 0;
  flanks = 0;
  core = 0;
  first_row = 4294967295;
  last_row = 0;
  first_col = 4294967295;
  last_col = 0;
}

-- the measures after one more run
abbrev pub patch_with_run : Patch → RunContribution → Patch
patch_with_run p f = record {
  class = f.class;
  cells = p.cells + f.cells;
  ends = p.ends + f.ends;
  flanks = p.flanks + f.flanks;
  core = p.core;
  first_row = min p.first_row f.row;
  last_row = max p.last_row f.row;
  first_col = min p.first_col f.first_col;
  last_col = max p.last_col f.last_col;
}

-- the measures with this number of core cells
abbrev pub patch_with_core : Patch → ℕ → Patch
patch_with_core p core = record {
  class = p.class;
  cells = p.cells;
  ends = p.ends;
  flanks = p.flanks;
  core = core;
  first_row = p.first_row;
  last_row = p.last_row;
  first_col = p.first_col;
  last_col = p.last_col;
}

-- the measures cannot overflow if the run is added
pub record PatchMeasuresCannotOverflow (p : Patch) (f : RunContribution) : Type 0 where
  pub cells : p.cells + f.cells < 18446744073709551616
  pub ends : p.ends + f.ends < 18446744073709551616
  pub flanks : p.flanks + f.flanks < 18446744073709551616

-- the patch at index k, or an unread patch past the end of the list
abbrev pub patch_at_index_or_unread : List Patch → ℕ → Patch
patch_at_index_or_unread patches k = slice_index_or patches k unread

-- the patch at this index has one more run, and all others are unchanged
pub record IsRunAddedToPatch (old new : List Patch) (place : ℕ) (found : RunContribution) : Type 0 where
  pub here : patch_at_index_or_unread new place ≡ patch_with_run (patch_at_index_or_unread old place) found
  pub others : (k : ℕ) → k ≢ place → patch_at_index_or_unread new k ≡ patch_at_index_or_unread old k
  pub long : length new ≡ max (length old) (place + 1)

-- the patch at this index has one more core cell, and all others are unchanged
pub record IsCoreAddedToPatch (old new : List Patch) (place : ℕ) : Type 0 where
  pub here : patch_at_index_or_unread new place
      ≡ patch_with_core (patch_at_index_or_unread old place) ((patch_at_index_or_unread old place).core + 1)
  pub others : (k : ℕ) → k ≢ place → patch_at_index_or_unread new k ≡ patch_at_index_or_unread old k
  pub long : length new ≡ length old

-- the patches have the same numbers of core cells
abbrev pub HaveSameCores : (old new : List Patch) → Type 0
HaveSameCores old new = (k : ℕ) → (patch_at_index_or_unread new k).core ≡ (patch_at_index_or_unread old k).core

-- the patches have the same measures except for their numbers of core cells
pub record HaveSameMeasuresExceptCores (old new : List Patch) : Type 0 where
  pub each : (k : ℕ) → patch_with_core (patch_at_index_or_unread new k) 0
      ≡ patch_with_core (patch_at_index_or_unread old k) 0
  pub long : length new ≡ length old

-- the cell at row a, column b precedes the cell at row r, column c in row order
abbrev pub CellPrecedesCellInRowOrder : ℕ → ℕ → ℕ → ℕ → Type 0
CellPrecedesCellInRowOrder a b r c = (a < r) ⊎ ((a ≡ r) × (b < c))

-- a sum over the cells before row r, column c
abbrev pub sum_over_earlier_cells : ℕ → (ℕ → ℕ → ℕ) → ℕ → ℕ → ℕ
sum_over_earlier_cells cols f r c = sum_over_cells_of_first_rows f cols r + sum_over_first_columns (f r) c

-- a tile: a map that contains it, its position, and its patch numbers
pub record TileOfMap : Type 0 where
  pub map : Grid
  pub position : TilePosition
  pub numbers : Grid

-- the cell of the map at a row and a column of the tile
abbrev pub map_cell_of_tile : TileOfMap → ℕ → ℕ → CellValue
map_cell_of_tile t r c = cell_at t.map (t.position.top + r) (t.position.left + c)

-- the value at a cell of patch n, of values at the cells of the map; 0 outside the patch
abbrev pub value_of_cell_in_tile_patch : TileOfMap → ℕ → (ℕ → ℕ → ℕ) → ℕ → ℕ → ℕ
value_of_cell_in_tile_patch t n f r c =
    value_or_0_outside_patch t.numbers n r c (f (t.position.top + r) (t.position.left + c))

-- the sum of the values at the cells of patch n before row r, column c
abbrev pub sum_over_earlier_cells_of_patch : TileOfMap → ℕ → (ℕ → ℕ → ℕ) → ℕ → ℕ → ℕ
sum_over_earlier_cells_of_patch t n f = sum_over_earlier_cells t.numbers.region.cols (value_of_cell_in_tile_patch t n f)

-- the measures of a patch, except its core, after the cells before row r, column c were read
pub record AreMeasuresOfPatchUpToCell (t : TileOfMap) (n r c : ℕ) (patch : Patch) : Type 0 where
  pub class : (a b : ℕ) → CellPrecedesCellInRowOrder a b r c → is_in_patch t.numbers n a b ≡ true
      → map_cell_of_tile t a b ≡ Some patch.class
  pub cells : patch.cells ≡ sum_over_earlier_cells_of_patch t n (λ a b. 1) r c
  pub ends : patch.ends ≡ sum_over_earlier_cells_of_patch t n (outer_north_south_side_count_of_cell t.map) r c
  pub flanks : patch.flanks ≡ sum_over_earlier_cells_of_patch t n (outer_west_east_side_count_of_cell t.map) r c
  pub rows : (a b : ℕ) → CellPrecedesCellInRowOrder a b r c → is_in_patch t.numbers n a b ≡ true
      → (patch.first_row ≤ t.position.first_row + a) × (t.position.first_row + a ≤ patch.last_row)
  pub cols : (a b : ℕ) → CellPrecedesCellInRowOrder a b r c → is_in_patch t.numbers n a b ≡ true
      → (patch.first_col ≤ t.position.first_col + b) × (t.position.first_col + b ≤ patch.last_col)
  pub first_row : patch.first_row < 4294967295 → TilePatchHasCellInRow t.position t.numbers n patch.first_row
  pub last_row : 0 < patch.last_row → TilePatchHasCellInRow t.position t.numbers n patch.last_row
  pub first_col : patch.first_col < 4294967295 → TilePatchHasCellInColumn t.position t.numbers n patch.first_col
  pub last_col : 0 < patch.last_col → TilePatchHasCellInColumn t.position t.numbers n patch.last_col

-- the measures of all patches, except their cores, after the cells before row r, column c were read
pub record AreMeasuresOfPatchesUpToCell (t : TileOfMap) (r c : ℕ) (patches : List Patch) : Type 0 where
  pub each : (k : ℕ) → AreMeasuresOfPatchUpToCell t (k + 1) r c (patch_at_index_or_unread patches k)
  -- no patch number exceeds the length of the list, and the last number occurs
  pub all : (a b n : ℕ) → CellPrecedesCellInRowOrder a b r c → cell_at t.numbers a b ≡ Some (pos n)
      → n ≤ length patches
  pub last : 0 < length patches → (a : ℕ) × ((b : ℕ) × (cell_at t.numbers a b ≡ Some (pos (length patches))))

-- the cores of all patches after the cells before row r, column c were counted
abbrev pub AreCoresOfPatchesUpToCell : TileOfMap → (depth r c : ℕ) → List Patch → Type 0
AreCoresOfPatchesUpToCell t depth r c patches =
    (k : ℕ) → (patch_at_index_or_unread patches k).core
    ≡ sum_over_earlier_cells_of_patch t (k + 1) (one_if_cell_is_core t.map depth) r c

-- the sum over the columns of a run of `count` cells that begins at column c
abbrev pub IsSumOverRun : (ℕ → ℕ) → (c count sum : ℕ) → Type 0
IsSumOverRun f c count sum = sum_over_first_columns f (c + count) ≡ sum_over_first_columns f c + sum

-- the contribution of a run of `count` cells that begins at row r, column c
pub record IsRunContributionToPatch (t : TileOfMap) (n r c count : ℕ) (found : RunContribution) : Type 0 where
  pub class : map_cell_of_tile t r c ≡ Some found.class
  pub cells : IsSumOverRun (value_of_cell_in_tile_patch t n (λ a b. 1) r) c count found.cells
  pub ends : IsSumOverRun (value_of_cell_in_tile_patch t n (outer_north_south_side_count_of_cell t.map) r) c count
      found.ends
  pub flanks : IsSumOverRun (value_of_cell_in_tile_patch t n (outer_west_east_side_count_of_cell t.map) r) c count
      found.flanks
  pub row : found.row ≡ t.position.first_row + r
  pub first_col : found.first_col ≡ t.position.first_col + c
  pub last_col : found.last_col + 1 ≡ t.position.first_col + c + count

-- the cell this many rows above; null outside the map
abbrev pub cell_rows_above_or_null : ℕ → Grid → ℕ → ℕ → CellValue
cell_rows_above_or_null steps m r c = if nat_le steps r then cell_at m (r - steps) c else None

-- the rows of a map at and around row r
pub record AreRowsAroundRow (m : Grid) (r : ℕ) (lines : RowsAroundRow) : Type 0 where
  pub second_above : (c : ℕ) → slice_index_or lines.second_above.now c None ≡ cell_rows_above_or_null 2 m r c
  pub above : (c : ℕ) → slice_index_or lines.above.now c None ≡ cell_rows_above_or_null 1 m r c
  pub here : (c : ℕ) → slice_index_or lines.here.now c None ≡ cell_at m r c
  pub below : (c : ℕ) → slice_index_or lines.below.now c None ≡ cell_at m (r + 1) c

-- the steps of the largest diamond of cells with one value and with this lowest cell: all cells of a diamond have the
-- value if and only if it has at most this many steps
pub record AreStepsOfLargestDiamond (m : Grid) (value : CellValue) (r c steps : ℕ) : Type 0 where
  pub within : steps ≤ r
  pub exactly : (k center : ℕ) → center + k ≡ r → (k ≤ steps)
      ↔ (do_cells_within_steps_have_value m value k center c ≡ true)

-- the steps of each cell of a row
abbrev pub AreDiamondStepsOfRow : Grid → ℕ → List ℕ → Type 0
AreDiamondStepsOfRow m r steps =
    (c : ℕ) (v : ℤ) → cell_at m r c ≡ Some v → AreStepsOfLargestDiamond m (Some v) r c (slice_index_or steps c 0)

-- the steps of each cell of the row this many rows above
abbrev pub AreDiamondStepsOfRowAbove : ℕ → Grid → ℕ → List ℕ → Type 0
AreDiamondStepsOfRowAbove rows m r steps = (a : ℕ) → a + rows ≡ r → AreDiamondStepsOfRow m a steps

-- the cell to the west in a row
abbrev pub west_cell_in_row_or_null : List CellValue → ℕ → CellValue
west_cell_in_row_or_null line zero = None
west_cell_in_row_or_null line (suc c) = slice_index_or line c None

-- the cell to the right of column `west` equals the three cells above it and the cell two rows above
abbrev pub cell_equals_four_cells_above : RowsAroundRow → ℕ → Bool
cell_equals_four_cells_above lines west =
    let cell = slice_index_or lines.here.now (west + 1) None in
    cell_eq (slice_index_or lines.above.now (west + 1) None) cell
    && (cell_eq (slice_index_or lines.above.now west None) cell
    && (cell_eq (slice_index_or lines.above.now (west + 2) None) cell
    && cell_eq (slice_index_or lines.second_above.now (west + 1) None) cell))

-- the rows at and around row r, and the steps of the two rows above
pub record AreRowsAndStepsAroundRow (m : Grid) (r : ℕ) (lines : RowsAroundRow) (above second_above : List ℕ) : Type 0
  where
    pub at : AreRowsAroundRow m r lines
    pub row_most : r ≤ 65535
    pub one : AreDiamondStepsOfRowAbove 1 m r above
    pub two : AreDiamondStepsOfRowAbove 2 m r second_above

-- in every map with these rows, the result is the steps of a cell, or of all cells of a row
abbrev pub RowsGiveDiamondStepsOfCell : RowsAroundRow → ℕ → List ℕ → List ℕ → ℕ → Type 0
RowsGiveDiamondStepsOfCell lines col above second_above steps = (m : Grid) (r : ℕ)
    → AreRowsAndStepsAroundRow m r lines above second_above
    → (v : ℤ) → cell_at m r col ≡ Some v → AreStepsOfLargestDiamond m (Some v) r col steps

abbrev pub RowsGiveDiamondStepsOfRow : RowsAroundRow → List ℕ → List ℕ → List ℕ → Type 0
RowsGiveDiamondStepsOfRow lines above second_above here =
    (m : Grid) (r : ℕ) → AreRowsAndStepsAroundRow m r lines above second_above → AreDiamondStepsOfRow m r here

-- the patch numbers of a tile are valid: each is at least 1, the cells with a category have a number, the cells of a
-- patch have the same category, and the tile is inside the map, whose size is limited
pub record AreValidPatchNumbers (t : TileOfMap) : Type 0 where
  pub least : (a b : ℕ) (v : ℤ) → cell_at t.numbers a b ≡ Some v → (n : ℕ) × (v ≡ pos (n + 1))
  pub numbered : (a b : ℕ) (v : ℤ) → a < t.numbers.region.rows → b < t.numbers.region.cols
      → map_cell_of_tile t a b ≡ Some v → (n : ℕ) × (cell_at t.numbers a b ≡ Some (pos (n + 1)))
  pub alike : (n a b x y : ℕ) → is_in_patch t.numbers n a b ≡ true → is_in_patch t.numbers n x y ≡ true
      → map_cell_of_tile t a b ≡ map_cell_of_tile t x y
  pub classes : (a b n : ℕ) → cell_at t.numbers a b ≡ Some (pos n) → (v : ℤ) × (map_cell_of_tile t a b ≡ Some v)
  pub rows : (a b n : ℕ) → cell_at t.numbers a b ≡ Some (pos n) → a < t.numbers.region.rows
  pub cols : (a b n : ℕ) → cell_at t.numbers a b ≡ Some (pos n) → b < t.numbers.region.cols
  pub inside : IsTileInsideMap t.map.region t.position t.numbers.region
  pub filled : RowsFillRegion t.map.region t.map.rows
  pub rows_most : t.map.region.rows ≤ 65535
  pub cols_most : t.map.region.cols ≤ 65535

-- the number of sides to a row that lead out of a category, in its first columns
abbrev pub outer_side_count_in_first_columns : CellValue → List CellValue → ℕ → ℕ
outer_side_count_in_first_columns class beyond =
    sum_over_first_columns (λ c. one_if_side_leaves_category class (slice_index_or beyond c None))

-- the contribution of a run of `count` cells that begins at column c, computed from the rows around it, with its row
-- and its first column in the full map
pub record IsRunContributionFromRows (lines : RowsAroundRow) (cell : CellValue) (c count row col : ℕ)
    (found : RunContribution) : Type 0 where
  pub class : (v : ℤ) → cell ≡ Some v → found.class ≡ v
  pub cells : found.cells ≡ count
  pub ends : found.ends
      + (outer_side_count_in_first_columns cell lines.above.now c
      + outer_side_count_in_first_columns cell lines.below.now c)
      ≡ outer_side_count_in_first_columns cell lines.above.now (c + count)
      + outer_side_count_in_first_columns cell lines.below.now (c + count)
  pub flanks : found.flanks
      ≡ one_if_side_leaves_category cell (west_cell_in_row_or_null lines.here.now c)
      + one_if_side_leaves_category cell (slice_index_or lines.here.now (c + count) None)
  pub at_row : found.row ≡ row
  pub at_first_col : found.first_col ≡ col
  pub at_last_col : found.last_col + 1 ≡ col + count

-- the requirements for reading a row of a tile, and for reading a run of it
pub record CanMeasurePatchesInRow (t : TileOfMap) (position : TilePosition) (r : ℕ) (lines : RowsAroundRow) : Type 0
  where
    pub valid : AreValidPatchNumbers t
    pub same : position ≡ t.position
    pub row : r < t.numbers.region.rows
    pub at : AreRowsAroundRow t.map (t.position.top + r) lines
    pub wide : length lines.here.now ≡ t.map.region.cols

pub record CanMeasurePatchesInRun (t : TileOfMap) (position : TilePosition) (r c : ℕ) (lines : RowsAroundRow)
    (run : RunValue) : Type 0 where
  pub ready : CanMeasurePatchesInRow t position r lines
  pub some : 0 < run.1
  pub cols : c + run.1 ≤ t.numbers.region.cols
  pub has_number : (b : ℕ) → b < run.1 → cell_at t.numbers r (c + b) ≡ run.0

-- the requirements for counting the cores of a row of a tile, given the row of the map `depth` rows below
pub record CanCountCoresOfRow (t : TileOfMap) (left depth r : ℕ) (below : List CellValue) (steps : List ℕ) : Type 0
  where
    pub valid : AreValidPatchNumbers t
    pub same : left ≡ t.position.left
    pub row : r < t.numbers.region.rows
    pub at : (c : ℕ) → slice_index_or below c None ≡ cell_at t.map (t.position.top + r + depth) c
    pub have_steps : AreDiamondStepsOfRow t.map (t.position.top + r + depth) steps

-- the number of the tile's rows before this row of the map, if the tile begins with row `top`
abbrev pub tile_rows_before : Grid → (top row : ℕ) → ℕ
tile_rows_before numbers top row = min (row - top) numbers.region.rows

-- the measures and cores of the patches before row r of the map is read: each core is counted `depth` rows later
pub record IsMeasuringStateBeforeRow (t : TileOfMap) (depth r : ℕ) (patches : List Patch) : Type 0 where
  pub read : AreMeasuresOfPatchesUpToCell t (tile_rows_before t.numbers t.position.top r) 0 patches
  pub cores : AreCoresOfPatchesUpToCell t depth (tile_rows_before t.numbers (t.position.top + depth) r) 0 patches

-- the requirements for reading a row of the map
pub record CanMeasurePatchesFromRow (t : TileOfMap) (r : ℕ) (lines : RowsAroundRow)
    (above second_above : List ℕ) : Type 0 where
  pub valid : AreValidPatchNumbers t
  pub row : r < t.map.region.rows
  pub at : AreRowsAroundRow t.map r lines
  pub wide : length lines.here.now ≡ t.map.region.cols
  pub one : AreDiamondStepsOfRowAbove 1 t.map r above
  pub two : AreDiamondStepsOfRowAbove 2 t.map r second_above
