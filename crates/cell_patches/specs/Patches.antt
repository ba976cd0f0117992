-- The measures of the patches of a map, given the map of patch numbers (r.clump).
use Rattle.std.specs.Prelude.{ℕ, zero, suc, pos, ◌+◌, ◌≤◌, ◌≡◌, Bool, true, false, ◌&&◌, List, length, Some, None}
use Rattle.std.specs.Prelude.{slice_get, if◌then◌else◌}
use Rattle.cell_core_values.specs.Cell.{cell_eq}
use Rattle.cell_core_values.specs.Region.{RegionValue}
use Rattle.cell_core.specs.Grid.{Grid, CellValue, cell_at}
use Rattle.cell_patches.specs.declared.patch.Patch.{Patch}

-- the cell has the value
abbrev pub has_value : Grid → CellValue → ℕ → ℕ → Bool
has_value m value r c = cell_eq (cell_at m r c) value

-- the cell is in patch number n
abbrev pub is_in_patch : Grid → ℕ → ℕ → ℕ → Bool
is_in_patch numbers n = has_value numbers (Some (pos n))

-- the cells to the north and to the west; null outside the map
abbrev pub north_cell_in_map_or_null : Grid → ℕ → ℕ → CellValue
north_cell_in_map_or_null numbers zero c = None
north_cell_in_map_or_null numbers (suc r) c = cell_at numbers r c

abbrev pub west_cell_in_map_or_null : Grid → ℕ → ℕ → CellValue
west_cell_in_map_or_null numbers r zero = None
west_cell_in_map_or_null numbers r (suc c) = cell_at numbers r c

-- 1 if a side leads out of patch n, to another patch, to null or outside the map; otherwise 0
abbrev pub one_if_side_leaves_patch : ℕ → CellValue → ℕ
one_if_side_leaves_patch n beyond = if cell_eq beyond (Some (pos n)) then 0 else 1

-- the contribution of a cell to patch n, which is 0 if the cell is not in it
abbrev pub value_or_0_outside_patch : Grid → ℕ → ℕ → ℕ → ℕ → ℕ
value_or_0_outside_patch numbers n r c many = if is_in_patch numbers n r c then many else 0

-- the ends of a cell are its north and south sides that lead out of its patch, and its flanks the west and east sides
abbrev pub outer_north_south_side_count : Grid → ℕ → ℕ → ℕ → ℕ
outer_north_south_side_count numbers n r c =
    value_or_0_outside_patch numbers n r c (one_if_side_leaves_patch n
    (north_cell_in_map_or_null numbers r c) + one_if_side_leaves_patch n
    (cell_at numbers (r + 1) c))

abbrev pub outer_west_east_side_count : Grid → ℕ → ℕ → ℕ → ℕ
outer_west_east_side_count numbers n r c =
    value_or_0_outside_patch numbers n r c (one_if_side_leaves_patch n
    (west_cell_in_map_or_null numbers r c) + one_if_side_leaves_patch n
    (cell_at numbers r (c + 1)))

-- all cells within this number of steps across edges have this value, which is not null, and none is outside the map
unfoldable pub do_cells_within_steps_have_value : Grid → CellValue → ℕ → ℕ → ℕ → Bool
do_cells_within_steps_have_value m value zero r c = has_value m value r c
do_cells_within_steps_have_value m value (suc steps) zero c = false
do_cells_within_steps_have_value m value (suc steps) (suc r) zero = false
do_cells_within_steps_have_value m value (suc steps) (suc r) (suc c) =
    do_cells_within_steps_have_value m value steps (suc r) (suc c)
    && (do_cells_within_steps_have_value m value steps r (suc c)
    && do_cells_within_steps_have_value m value steps (suc (suc r))
    (suc c))
    && (do_cells_within_steps_have_value m value steps (suc r) c
    && do_cells_within_steps_have_value m value steps (suc r)
    (suc (suc c)))

-- all cells within this number of steps across edges are in the patch
abbrev pub are_cells_within_steps_in_patch : Grid → ℕ → ℕ → ℕ → ℕ → Bool
are_cells_within_steps_in_patch numbers n = do_cells_within_steps_have_value numbers (Some (pos n))

-- a sum over the first columns of a row, and a sum over all columns of the first rows
unfoldable pub sum_over_first_columns : (ℕ → ℕ) → ℕ → ℕ
sum_over_first_columns f zero = 0
sum_over_first_columns f (suc c) = sum_over_first_columns f c + f c

unfoldable pub sum_over_cells_of_first_rows : (ℕ → ℕ → ℕ) → ℕ → ℕ → ℕ
sum_over_cells_of_first_rows f cols zero = 0
sum_over_cells_of_first_rows f cols (suc r) = sum_over_cells_of_first_rows f cols r + sum_over_first_columns (f r) cols

-- a sum over all cells of a map
abbrev pub sum_over_cells : RegionValue → (ℕ → ℕ → ℕ) → ℕ
sum_over_cells region f = sum_over_cells_of_first_rows f region.cols region.rows

-- the number of cells of a map that pass a test
abbrev pub count_of_cells_that_pass : RegionValue → (ℕ → ℕ → Bool) → ℕ
count_of_cells_that_pass region test = sum_over_cells region (λ r c. if test r c then 1 else 0)

-- the smallest number with a property, and the largest
pub record IsSmallestWithProperty (Kind : ℕ → Type 0) (n : ℕ) : Type 0 where
  pub some : Kind n
  pub least : (k : ℕ) → Kind k → n ≤ k

pub record IsLargestWithProperty (Kind : ℕ → Type 0) (n : ℕ) : Type 0 where
  pub some : Kind n
  pub most : (k : ℕ) → Kind k → k ≤ n

-- the patch has a cell in the row, or in the column
abbrev pub PatchHasCellInRow : Grid → ℕ → ℕ → Type 0
PatchHasCellInRow numbers n r = (c : ℕ) × (is_in_patch numbers n r c ≡ true)

abbrev pub PatchHasCellInColumn : Grid → ℕ → ℕ → Type 0
PatchHasCellInColumn numbers n c = (r : ℕ) × (is_in_patch numbers n r c ≡ true)

-- the measures of patch number n: its category and number of cells, its ends and flanks, the number of cells that are
-- `depth` steps inside it, and its first and last rows and columns
pub record AreMeasuresOfPatch (m numbers : Grid) (depth n : ℕ) (patch : Patch) : Type 0 where
  pub class : (r c : ℕ) → is_in_patch numbers n r c ≡ true → cell_at m r c ≡ Some patch.class
  pub cells : patch.cells ≡ count_of_cells_that_pass numbers.region (is_in_patch numbers n)
  pub ends : patch.ends ≡ sum_over_cells numbers.region (outer_north_south_side_count numbers n)
  pub flanks : patch.flanks ≡ sum_over_cells numbers.region (outer_west_east_side_count numbers n)
  pub core : patch.core ≡ count_of_cells_that_pass numbers.region (are_cells_within_steps_in_patch numbers n depth)
  pub first_row : IsSmallestWithProperty (PatchHasCellInRow numbers n) patch.first_row
  pub last_row : IsLargestWithProperty (PatchHasCellInRow numbers n) patch.last_row
  pub first_col : IsSmallestWithProperty (PatchHasCellInColumn numbers n) patch.first_col
  pub last_col : IsLargestWithProperty (PatchHasCellInColumn numbers n) patch.last_col

-- the measures of all patches, in the order of their numbers, which start at 1
pub record AreMeasuresOfAllPatches (m numbers : Grid) (depth : ℕ) (patches : List Patch) : Type 0 where
  pub each : (k : ℕ) (patch : Patch) → slice_get patches k ≡ Some patch
      → AreMeasuresOfPatch m numbers depth (k + 1) patch
  pub all : (r c n : ℕ) → cell_at numbers r c ≡ Some (pos n) → n ≤ length patches
