-- The numbers of a map's cells, computed from a label table.
use Rattle.std.specs.Prelude.{ℕ, zero, suc, pos, Bool, ◌+◌, ◌<◌, ◌≤◌, ◌≡◌, List, [], ◌∷◌, ◌++◌, length, Some, None}
use Rattle.std.specs.Prelude.{nat_eq, slice_index, if◌then◌else◌, is_some}
use Rattle.cell_core.specs.Grid.{Grid, CellValue}
use Rattle.cell_clumps.specs.declared.clump.Joining.{Joining}
use Rattle.cell_clumps.specs.Clumps.{Position, cell_at_position}
use Rattle.cell_clumps.specs.parts.ClumpsRead.{clump_label_at_position}
use Rattle.cell_clumps.specs.parts.Meetings.{LabelsLeadToConnectedRoots}
use Rattle.cell_clumps.specs.parts.Starts.{cell_that_began_label}
use Rattle.cell_clumps.specs.parts.LabelTables.{IsLabelTableOfMap}

-- the label is open: it points to itself
abbrev pub is_first : List ℕ → ℕ → Bool
is_first labels k = nat_eq (slice_index labels k) k

-- the first cells of the open labels below k
abbrev pub first_cells_of_roots_below_label : Joining → Grid → List ℕ → ℕ → List Position
first_cells_of_roots_below_label j m labels zero = []
first_cells_of_roots_below_label j m labels (suc k) = if is_first labels k then first_cells_of_roots_below_label j m
    labels k ++ cell_that_began_label j m k ∷ [] else first_cells_of_roots_below_label j m labels k

-- the number of an open label
abbrev pub clump_number_of_root : Joining → Grid → List ℕ → ℕ → ℕ
clump_number_of_root j m labels k = length (first_cells_of_roots_below_label j m labels (suc k))

-- the number of a non-null cell, which is the number of the open label that its own label leads to
unfoldable pub clump_number_of_cell : (j : Joining) (m : Grid) (table : List ℕ) → IsLabelTableOfMap j m table
    → Position → ℕ
clump_number_of_cell j m table h p = clump_number_of_root j m table
    (h.has_read.open_of (clump_label_at_position m h.labels p))

-- the cell that is written: the number, or null if the cell is null
abbrev pub cell_of_clump_map : (j : Joining) (m : Grid) (table : List ℕ) → IsLabelTableOfMap j m table → Position
    → CellValue
cell_of_clump_map j m table h p = if is_some (cell_at_position m p) then Some
    (pos (clump_number_of_cell j m table h p)) else None

-- the table after the labels before `place` were replaced by numbers
pub record AreLabelsNumberedBeforePlace (j : Joining) (m : Grid) (labels : List ℕ) (open_of : ℕ
    → ℕ) (place : ℕ) (table : List ℕ) (count : ℕ) : Type 0 where
  pub long : length table ≡ length labels
  pub later : (k : ℕ) → place ≤ k → slice_index table k ≡ slice_index labels k
  pub done : (k : ℕ) → k < place → slice_index table k ≡ clump_number_of_root j m labels (open_of k)
  pub counted : count ≡ length (first_cells_of_roots_below_label j m labels place)

-- the labels from `place` can be numbered: none points to a larger label, and no entry exceeds the length of the table
pub record CanNumberLabelsFromPlace (place : ℕ) (table : List ℕ) : Type 0 where
  pub down : (k : ℕ) → place ≤ k → slice_index table k ≤ k
  pub most : (k : ℕ) → slice_index table k ≤ length table

-- the table after every label was replaced by its number
pub record AreAllLabelsNumbered (j : Joining) (m : Grid) (labels : List ℕ) (h : IsLabelTableOfMap j m labels)
    (table : List ℕ) : Type 0 where
  pub long : length table ≡ length labels
  pub short : length labels < 2147483648
  pub done : (k : ℕ) → k < length labels → slice_index table k ≡ clump_number_of_root j m labels (h.has_read.open_of k)

-- replaces the label at `place` with its number, and updates the largest number
abbrev pub ReplacesLabelByClumpNumber : ℕ → List ℕ → ℕ → List ℕ → ℕ → Type 0
ReplacesLabelByClumpNumber place old count new more = (j : Joining) (m : Grid) (labels : List ℕ) (open_of : ℕ → ℕ)
    → LabelsLeadToConnectedRoots j m labels open_of
    → AreLabelsNumberedBeforePlace j m labels open_of place old count
    → AreLabelsNumberedBeforePlace j m labels open_of (place + 1) new more

-- replaces each label in a table with the number of its clump
abbrev pub ReplacesLabelsByClumpNumbers : List ℕ → List ℕ → Type 0
ReplacesLabelsByClumpNumbers old new = (j : Joining) (m : Grid) (open_of : ℕ → ℕ)
    → LabelsLeadToConnectedRoots j m old open_of
    → (k : ℕ) → k < length old → slice_index new k ≡ clump_number_of_root j m old (open_of k)
