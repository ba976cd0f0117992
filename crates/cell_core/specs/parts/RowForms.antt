-- How a row is stored: as runs, as bytes or as cells; and the remaining runs in each form.
use Rattle.std.specs.Prelude.{ℕ, suc, ◌+◌, ◌<◌, ◌^◌, Bool, not, ◌==◌, List, [], ◌∷◌, map, length, take, drop, if◌then◌else◌}
use lib.Lanes.{mask_l}
use Rattle.cell_core_values.specs.Cell.{cell_eq}
use Rattle.cell_core.specs.Grid.{CellValue}
use Rattle.cell_core.specs.Runs.{RunValue, AreMaximalRuns, cells_of_runs}
use Rattle.cell_core_values.specs.SmallCells.{cells_of_bytes}
use Rattle.cell_core.specs.declared.row.RowForm.{RowForm}
use Rattle.cell_core.specs.declared.row.RowForm.TheVariants as kept
use Rattle.cell_core.specs.declared.row_view.RowViewForm.{RowViewForm}
use Rattle.cell_core.specs.declared.row_view.RowViewForm.TheVariants as view
use Rattle.cell_core.specs.declared.runs.RemainingRuns.{RemainingRuns}
use Rattle.cell_core.specs.declared.runs.RemainingRuns.TheVariants as rest
use Rattle.cell_core.specs.declared.stretches.RemainingRunsOrCells.{RemainingRunsOrCells}
use Rattle.cell_core.specs.declared.stretches.RemainingRunsOrCells.TheVariants as unread

-- the cells of a stored row
abbrev pub cells_of_stored_row : RowForm → List CellValue
cells_of_stored_row (kept.Runs runs) = cells_of_runs runs.items
cells_of_stored_row (kept.Bytes bytes) = cells_of_bytes bytes.items
cells_of_stored_row (kept.Cells cells) = cells.items

-- the stored runs are valid, or there are fewer than 2^32 stored bytes or cells
abbrev pub IsValidStoredRow : RowForm → Type 0
IsValidStoredRow (kept.Runs runs) = AreMaximalRuns runs.items
IsValidStoredRow (kept.Bytes bytes) = length bytes.items < 2 ^ 32
IsValidStoredRow (kept.Cells cells) = length cells.items < 2 ^ 32

-- like `cells_of_stored_row` and `IsValidStoredRow`, for the view of a row
abbrev pub cells_of_view : RowViewForm → List CellValue
cells_of_view (view.Runs runs) = cells_of_runs runs.now
cells_of_view (view.Bytes bytes) = cells_of_bytes bytes.now
cells_of_view (view.Cells cells) = cells.now

abbrev pub IsValidRowView : RowViewForm → Type 0
IsValidRowView (view.Runs runs) = AreMaximalRuns runs.now
IsValidRowView (view.Bytes bytes) = length bytes.now < 2 ^ 32
IsValidRowView (view.Cells cells) = length cells.now < 2 ^ 32

-- the number of cells at the start that equal x
abbrev pub alike : CellValue → List CellValue → ℕ
alike x [] = 0
alike x (y ∷ cells) = if cell_eq y x then suc (alike x cells) else 0

-- the runs after one more cell at the start
abbrev pub runs_with_cell_in_front : CellValue → List RunValue → List RunValue
runs_with_cell_in_front x [] = (x, 1) ∷ []
runs_with_cell_in_front x (run ∷ runs) = if cell_eq run.0 x then (x, run.1 + 1) ∷ runs else (x, 1) ∷ run ∷ runs

-- the runs of a list of cells
abbrev pub runs_of_cells : List CellValue → List RunValue
runs_of_cells [] = []
runs_of_cells (x ∷ cells) = runs_with_cell_in_front x (runs_of_cells cells)

-- the runs of cells that follow a run and may continue it
abbrev pub runs_continuing_first_run : RunValue → List CellValue → List RunValue
runs_continuing_first_run run cells = (run.0, run.1 + alike run.0 cells)
    ∷ runs_of_cells (drop (alike run.0 cells) cells)

-- the runs of cells, where the first cell is the nth cell of its run
abbrev pub runs_from_nth_cell_of_run : ℕ → List CellValue → List RunValue
runs_from_nth_cell_of_run n [] = []
runs_from_nth_cell_of_run n (x ∷ cells) = runs_continuing_first_run (x, n) cells

-- the cells of the 64 bytes after the first byte
abbrev pub cells_after_first_byte : List ℕ → List CellValue
cells_after_first_byte bytes = cells_of_bytes (take 64 (drop 1 bytes))

-- for each cell, whether it differs from the previous cell, which is x for the first
abbrev pub run_start_marks : CellValue → List CellValue → List Bool
run_start_marks x [] = []
run_start_marks x (y ∷ cells) = not (cell_eq y x) ∷ run_start_marks y cells

-- the marks as the bits of a number, with the first mark in the lowest bit
abbrev pub run_start_mark_bits : CellValue → List CellValue → ℕ
run_start_mark_bits x cells = mask_l (run_start_marks x cells)

-- a mask of the bytes that are not 0
abbrev pub bits_of_nonzero_bytes : List ℕ → ℕ
bits_of_nonzero_bytes flags = mask_l (map (λ f. not (f == 0)) flags)

-- the number of runs that begin after the cell x
abbrev pub count_of_run_starts : CellValue → List CellValue → ℕ
count_of_run_starts x [] = 0
count_of_run_starts x (y ∷ cells) = if cell_eq y x then count_of_run_starts y cells else suc
    (count_of_run_starts y cells)

-- the remaining runs
abbrev pub runs_left : RemainingRuns → List RunValue
runs_left (rest.Runs runs) = runs.now
runs_left (rest.Bytes bytes) = runs_of_cells (cells_of_bytes bytes.now)
runs_left (rest.Cells cells) = runs_of_cells cells.now

-- there are fewer than 2^32 remaining bytes or cells
abbrev pub RemainingCellsFitInU32 : RemainingRuns → Type 0
RemainingCellsFitInU32 (rest.Runs runs) = Unit {0}
RemainingCellsFitInU32 (rest.Bytes bytes) = length bytes.now < 2 ^ 32
RemainingCellsFitInU32 (rest.Cells cells) = length cells.now < 2 ^ 32

-- one stretch per cell
abbrev pub single_cells_as_runs : List CellValue → List RunValue
single_cells_as_runs cells = map (λ cell. (cell, 1)) cells

-- the remaining stretches
abbrev pub runs_or_cells_left : RemainingRunsOrCells → List RunValue
runs_or_cells_left (unread.Runs runs) = runs.now
runs_or_cells_left (unread.Bytes bytes) = single_cells_as_runs (cells_of_bytes bytes.now)
runs_or_cells_left (unread.Cells cells) = single_cells_as_runs cells.now
