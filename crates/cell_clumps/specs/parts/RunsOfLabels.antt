-- The labels that are stored for the rows of a map, and a row as labelled runs.
use Rattle.std.specs.Prelude.{ℕ, ℤ, pos, ◌+◌, ◌<◌, ◌≤◌, ◌≡◌, ◌⊎◌, List, [], ◌∷◌, ◌++◌, length, map, replicate, take}
use Rattle.std.specs.Prelude.{drop, flat_map, Some, None, slice_index_or}
use Rattle.cell_core.specs.Grid.{Grid, CellValue}
use Rattle.cell_clumps.specs.declared.clump.Joining.{Joining}
use Rattle.cell_clumps.specs.declared.clump.Joining.TheVariants.{Edges}
use Rattle.cell_clumps.specs.declared.near.LabelledCell.{LabelledCell}
use Rattle.cell_clumps.specs.declared.near.EarlierNeighbours.{EarlierNeighbours}
use Rattle.cell_clumps.specs.declared.above.UnreadRowAbove.{UnreadRowAbove}
use Rattle.cell_clumps.specs.Clumps.{cell_at_position}
use Rattle.cell_clumps.specs.parts.ClumpsRead.{AreCellsBeforeColumnLabelled, IsLabellingStateAtColumn}
use Rattle.cell_clumps.specs.parts.ClumpsRead.{IsCellAlreadyLabelled}
use Rattle.cell_clumps.specs.parts.ClumpsRead.{clump_label_at_position}
use Rattle.cell_clumps.specs.parts.CellPlaces.{position_at_row_and_column}
use Rattle.cell_clumps.specs.parts.LabelTables.{IsLabelTableOfMap}

-- the cell beyond the edge of a map
abbrev pub null_cell_without_label : LabelledCell
null_cell_without_label = record { cell = None; label = 4294967295 }

-- the cells of labelled runs, from left to right
abbrev pub labelled_cells_of_runs : List (LabelledCell × ℕ) → List LabelledCell
labelled_cells_of_runs = flat_map (λ run. replicate run.1 run.0)

-- the labels of runs, one per cell
abbrev pub labels_of_cells_in_runs : List (ℕ × ℕ) → List ℕ
labels_of_cells_in_runs = flat_map (λ run. replicate run.1 run.0)

-- the unread cells of the row above
abbrev pub unread_cells_of_row_above : UnreadRowAbove → List (LabelledCell × ℕ) → List LabelledCell
unread_cells_of_row_above above line = replicate above.count above.cell
    ++ labelled_cells_of_runs (drop above.place line)

-- there is a current cell, unless the row has ended
abbrev pub HasCurrentCellUnlessRowEnded : UnreadRowAbove → List (LabelledCell × ℕ) → Type 0
HasCurrentCellUnlessRowEnded above line = above.count ≡ 0 → length line ≤ above.place

-- the next n cells above are equal; with corners, either another equal cell follows them or n is 1
abbrev pub NextCellsAboveAreEqual : Joining → UnreadRowAbove → ℕ → Type 0
NextCellsAboveAreEqual j above n = (n ≤ above.count) × ((j ≡ Edges) ⊎ ((n ≡ 1) ⊎ (n < above.count)))

-- the neighbours of the next cell, given the neighbours of the previous cell and the rest of the row above
abbrev pub neighbours_of_next_cell_in_row : EarlierNeighbours → List LabelledCell → EarlierNeighbours
neighbours_of_next_cell_in_row near coming = record {
  left = near.left;
  upper_left = near.above;
  above = slice_index_or coming 0 null_cell_without_label;
  upper_right = slice_index_or coming 1 null_cell_without_label;
}

-- the labels stored for the rows read so far: one per cell, with the largest number for null
pub record AreStoredLabelsOfRows (m : Grid) (labels : List ℕ) (kept : List (List ℕ)) : Type 0 where
  pub wide : (r : ℕ) → r < length kept → length (slice_index_or kept r []) ≡ m.region.cols
  pub read : (r c : ℕ) → r < length kept → c < m.region.cols → IsCellAlreadyLabelled m labels
      (position_at_row_and_column r c)
  pub some : (r c : ℕ) (v : ℤ) → r < length kept → c < m.region.cols
      → cell_at_position m (position_at_row_and_column r c) ≡ Some v
      → slice_index_or (slice_index_or kept r []) c 0 ≡ clump_label_at_position m labels
      (position_at_row_and_column r c)
  pub null : (r c : ℕ) → r < length kept → c < m.region.cols → cell_at_position m (position_at_row_and_column r c)
      ≡ None
      → slice_index_or (slice_index_or kept r []) c 0 ≡ 4294967295

-- the cells before column c of row r were read, and the labels of earlier rows are stored
pub record AreCellsLabelledAndRowsStored (j : Joining) (m : Grid) (kept : List (List ℕ)) (table : List ℕ)
    (line : List LabelledCell) (r c : ℕ) (near : EarlierNeighbours) : Type 0 where
  pub reading : IsLabellingStateAtColumn j m table line r c near
  pub kept_are : AreStoredLabelsOfRows m reading.cells.labels kept

-- like `AreCellsLabelledAndRowsStored` within a row, where `done` was read and the cells `coming` of the row above were not
abbrev pub IsRowLabelledSoFar : Joining → Grid → List (List ℕ) → List ℕ → List LabelledCell → List LabelledCell → ℕ
    → EarlierNeighbours → Type 0
IsRowLabelledSoFar j m kept table done coming r near = AreCellsLabelledAndRowsStored j m kept table (done
    ++ (coming ++ null_cell_without_label ∷ [])) r (length done) near

-- the rows before row r were read, the line holds the last of them, and their labels are stored
pub record AreRowsLabelledAndStored (j : Joining) (m : Grid) (kept : List (List ℕ)) (table : List ℕ)
    (line : List LabelledCell) (r : ℕ) : Type 0 where
  pub cells : AreCellsBeforeColumnLabelled j m table line r 0
  pub kept_are : AreStoredLabelsOfRows m cells.labels kept

-- like `AreRowsLabelledAndStored`, for a line of runs
abbrev pub AreRowsLabelledAsRuns : Joining → Grid → List (List ℕ) → List ℕ → List (LabelledCell × ℕ) → ℕ → Type 0
AreRowsLabelledAsRuns j m kept table line r = AreRowsLabelledAndStored j m kept table (labelled_cells_of_runs line
    ++ null_cell_without_label ∷ []) r

-- storing the labels of one more row keeps all labels correct
abbrev pub StoringRunRowKeepsLabelsCorrect : Joining → Grid → ℕ → List ℕ → List (LabelledCell × ℕ) → List ℕ
    → List (LabelledCell × ℕ) → List ℕ → Type 0
StoringRunRowKeepsLabelsCorrect j m r old above new below row = (kept : List (List ℕ)) → length kept ≡ r
    → AreRowsLabelledAsRuns j m kept old above r → AreRowsLabelledAsRuns j m (kept ++ row ∷ []) new below (r + 1)

-- like `StoringRunRowKeepsLabelsCorrect`, for a row stored as a line of cells
abbrev pub StoringCellRowKeepsLabelsCorrect : Joining → Grid → ℕ → List ℕ → List LabelledCell → List ℕ
    → List LabelledCell → Type 0
StoringCellRowKeepsLabelsCorrect j m r old above new below = (kept : List (List ℕ)) → length kept ≡ r
    → AreRowsLabelledAndStored j m kept old above r → AreRowsLabelledAndStored j m (kept
    ++ map (λ x. x.label) (take m.region.cols below) ∷ []) new below (r + 1)

-- the label table of a map, and the labels stored for each row
pub record AreLabelTableAndRowLabelsOfMap (j : Joining) (m : Grid) (table : List ℕ)
    (kept : List (List ℕ)) : Type 0 where
  pub labels : IsLabelTableOfMap j m table
  pub kept_are : AreStoredLabelsOfRows m labels.labels kept
  pub count : length kept ≡ m.region.rows

-- the number of a label as a cell; null if the table does not contain the label
abbrev pub clump_number_cell_of_label : List ℕ → ℕ → CellValue
clump_number_cell_of_label table label = slice_index_or (map (λ n. Some (pos n)) table) label None

-- the numbers of labels given as runs, one per cell
abbrev pub clump_numbers_of_cells_in_runs : List ℕ → List (ℕ × ℕ) → List CellValue
clump_numbers_of_cells_in_runs table = flat_map (λ run. replicate run.1 (clump_number_cell_of_label table run.0))
