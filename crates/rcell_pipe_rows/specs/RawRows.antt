-- The cells in a row of bytes: a mask hides cells, one number may denote null, and every other number is a category.
use Rattle.std.specs.Prelude.{ℕ, ℤ, Bool, false, ◌&&◌, not, nat_lt, List, map, slice_get, Option, Some, None, Result, Ok, Err, ◌==◌, if◌then◌else◌}
use Rattle.std.specs.Ordering.{int_eq}
use Rattle.std.specs.List.{list_any, range_with_len}
use Rattle.cell_core_values.specs.Cell.{is_category}
use Rattle.rcell_pipe_rows.specs.declared.kind.CellType.{CellType}
use Rattle.rcell_pipe_rows.specs.declared.raw_row.RowError.{RowError}
use Rattle.rcell_pipe_rows.specs.declared.raw_row.RowError.TheVariants.{BadMask, OutOfRange}
use Rattle.rcell_pipe_rows.specs.Numbers.{raw_number_at_place}

-- a byte of the mask, if there is a mask, hides a cell unless it is 0
abbrev pub is_hiding_mask_byte : Option ℕ → Bool
is_hiding_mask_byte None = false
is_hiding_mask_byte (Some byte) = not (byte == 0)

-- the number denotes null
abbrev pub is_nodata : Option ℤ → ℤ → Bool
is_nodata None number = false
is_nodata (Some nodata) number = int_eq number nodata

-- the number is neither null nor a category
abbrev pub is_unmapped_number : Option ℤ → ℤ → Bool
is_unmapped_number nodata number = not (is_nodata nodata number) && not (is_category number)

-- the cell that a visible number denotes
abbrev pub cell_of_raw_number : Option ℤ → ℤ → Option ℤ
cell_of_raw_number nodata number = if is_nodata nodata number then None else
    (if is_category number then Some number else None)

-- the cell at index `place` of a row
abbrev pub raw_cell_at_place : CellType → Option ℤ → List ℕ → List ℕ → ℕ → Option ℤ
raw_cell_at_place kind nodata mask bytes place = if is_hiding_mask_byte (slice_get mask place) then None else cell_of_raw_number nodata (raw_number_at_place kind bytes place)

-- the number at index `place` of a row is visible, and neither null nor a category
abbrev pub is_invalid_raw_number_at_place : CellType → Option ℤ → List ℕ → List ℕ → ℕ → Bool
is_invalid_raw_number_at_place kind nodata mask bytes place = not (is_hiding_mask_byte (slice_get mask place)) && is_unmapped_number nodata (raw_number_at_place kind bytes place)

-- the indices of a row of `cols` cells
abbrev pub places_in_row : ℕ → List ℕ
places_in_row cols = range_with_len 0 cols

-- the cells of a row
abbrev pub raw_cells : CellType → Option ℤ → List ℕ → List ℕ → ℕ → List (Option ℤ)
raw_cells kind nodata mask bytes cols = map (raw_cell_at_place kind nodata mask bytes) (places_in_row cols)

-- some number in the row is not a valid cell
abbrev pub has_invalid_raw_number : CellType → Option ℤ → List ℕ → List ℕ → ℕ → Bool
has_invalid_raw_number kind nodata mask bytes cols = list_any (is_invalid_raw_number_at_place kind nodata mask bytes)
    (places_in_row cols)

-- the mask has a byte other than 0 and 1
abbrev pub is_bad_mask : List ℕ → Bool
is_bad_mask mask = list_any (nat_lt 1) mask

-- the first error of a row: the mask is checked before the numbers
abbrev pub first_error_of_raw_row : CellType → Option ℤ → List ℕ → List ℕ → ℕ → Option RowError
first_error_of_raw_row kind nodata mask bytes cols = if is_bad_mask mask then Some BadMask else (if has_invalid_raw_number kind nodata mask bytes cols then Some OutOfRange else None)

-- the error of a result, if any
abbrev pub row_error_of_result : {X : Type 0} → Result X RowError → Option RowError
row_error_of_result (Ok done) = None
row_error_of_result (Err error) = Some error
