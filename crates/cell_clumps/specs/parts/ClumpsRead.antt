-- Properties of the labels after the first cells of a map were read, in row order.
use Rattle.std.specs.Prelude.{ℕ, ℤ, suc, ◌+◌, ◌*◌, ◌<◌, ◌≤◌, ◌≡◌, ◌≢◌, ◌⊎◌, List, [], ◌∷◌, ◌++◌, length, Option, Some}
use Rattle.std.specs.Prelude.{None, IsSome, true, slice_index, slice_index_or}
use Rattle.cell_core.specs.Grid.{Grid, CellValue}
use Rattle.cell_clumps.specs.declared.clump.Joining.{Joining}
use Rattle.cell_clumps.specs.declared.clump.Joining.TheVariants.{EdgesAndCorners}
use Rattle.cell_clumps.specs.declared.near.LabelledCell.{LabelledCell}
use Rattle.cell_clumps.specs.declared.near.EarlierNeighbours.{EarlierNeighbours}
use Rattle.cell_clumps.specs.Clumps.{Position, cell_at_position, AreAdjacent, AreCellsConnected}
use Rattle.cell_clumps.specs.parts.Labels.{LabelsPointToSmallerOrSelf}
use Rattle.cell_clumps.specs.parts.Meetings.{LabelsLeadToConnectedRoots}
use Rattle.cell_clumps.specs.parts.CellPlaces.{place_of_position, position_at_row_and_column, IsInsideMap}
use Rattle.cell_clumps.specs.parts.Starts.{IsEarlierNeighbour, IsLeftNeighbour, IsUpperNeighbour, IsUpperLeftNeighbour}
use Rattle.cell_clumps.specs.parts.Starts.{IsUpperRightNeighbour, IsPositionAtRowAndColumn, cell_begins_new_label}
use Rattle.cell_clumps.specs.parts.Starts.{count_of_begun_labels, cell_that_began_label}

-- the label of a cell, given the labels of all cells in row order
abbrev pub clump_label_at_position : Grid → List ℕ → Position → ℕ
clump_label_at_position m labels p = slice_index labels (place_of_position m.region.cols p)

-- a cell was read
abbrev pub IsCellAlreadyLabelled : Grid → List ℕ → Position → Type 0
IsCellAlreadyLabelled m labels p = place_of_position m.region.cols p < length labels

-- the table and the labels are correct for the cells read so far
pub record AreLabelsOfCellsRead (j : Joining) (m : Grid) (table labels : List ℕ) (open_of : ℕ → ℕ) : Type 0 where
  pub inside : (p : Position) (v : ℤ) → cell_at_position m p ≡ Some v → IsInsideMap m p
  pub long : length table ≡ count_of_begun_labels j m (length labels)
  pub sound : LabelsLeadToConnectedRoots j m table open_of
  -- each cell's label was assigned before the next cell was read, and the cell is connected to the cell that this label
  -- was created for
  pub few : (p : Position) (v : ℤ) → cell_at_position m p ≡ Some v → IsCellAlreadyLabelled m labels p
      → clump_label_at_position m labels p < count_of_begun_labels j m (suc (place_of_position m.region.cols p))
  pub joined : (p : Position) (v : ℤ) → cell_at_position m p ≡ Some v → IsCellAlreadyLabelled m labels p
      → AreCellsConnected j m (cell_that_began_label j m (clump_label_at_position m labels p)) p
  pub own : (p : Position) → IsInsideMap m p → cell_begins_new_label j m p ≡ true → IsCellAlreadyLabelled m labels p
      → clump_label_at_position m labels p ≡ count_of_begun_labels j m (place_of_position m.region.cols p)
  -- the labels of adjacent cells of the same category lead to the same open label
  pub meet : (p q : Position) (v : ℤ) → AreAdjacent j p q → cell_at_position m p ≡ Some v
      → cell_at_position m q ≡ Some v → IsCellAlreadyLabelled m labels p → IsCellAlreadyLabelled m labels q
      → open_of (clump_label_at_position m labels p) ≡ open_of (clump_label_at_position m labels q)

pub record RootsExistForLabelsOfCellsRead (j : Joining) (m : Grid) (table labels : List ℕ) : Type 0 where
  pub open_of : ℕ → ℕ
  pub read : AreLabelsOfCellsRead j m table labels open_of

-- x holds the cell at the position that satisfies `Lies`, and its label, if it is among the first `count` cells; null
-- otherwise
pub record IsLabelledCellOfMapOrNull (m : Grid) (count : ℕ) (label_of : Position → ℕ) (Lies : Position
    → Type 0) (x : LabelledCell) : Type 0 where
  pub some : (v : ℤ) → x.cell ≡ Some v → (q : Position) × Lies q × (cell_at_position m q ≡ Some v)
      × (x.label ≡ label_of q) × (place_of_position m.region.cols q < count)
  pub all : (q : Position) (v : ℤ) → Lies q → cell_at_position m q ≡ Some v → x.cell ≡ Some v

-- `near` holds the earlier neighbours of the cell at row r and column c
pub record AreEarlierNeighboursOfCell (m : Grid) (count : ℕ) (label_of : Position
    → ℕ) (r c : ℕ) (near : EarlierNeighbours) : Type 0 where
  pub left : IsLabelledCellOfMapOrNull m count label_of (IsLeftNeighbour r c) near.left
  pub upper_left : IsLabelledCellOfMapOrNull m count label_of (IsUpperLeftNeighbour r c) near.upper_left
  pub above : IsLabelledCellOfMapOrNull m count label_of (IsUpperNeighbour r c) near.above
  pub upper_right : IsLabelledCellOfMapOrNull m count label_of (IsUpperRightNeighbour r c) near.upper_right

-- the line holds row r before column c, the row above from column c, and a null at the end
pub record IsLineOfLabelledCells (m : Grid) (count : ℕ) (label_of : Position
    → ℕ) (r c : ℕ) (line : List LabelledCell) : Type 0 where
  pub wide : length line ≡ m.region.cols + 1
  pub end : (d : LabelledCell) → (slice_index_or line m.region.cols d).cell ≡ None
  pub here : (k : ℕ) (d : LabelledCell) → k < c → IsLabelledCellOfMapOrNull m count label_of
      (IsPositionAtRowAndColumn r k)
      (slice_index_or line k d)
  pub above : (k : ℕ) (d : LabelledCell) → c ≤ k → k < m.region.cols
      → IsLabelledCellOfMapOrNull m count label_of (IsUpperNeighbour r k) (slice_index_or line k d)

-- the cells before column c of row r were read, and their labels are in the table and in the line
pub record AreCellsBeforeColumnLabelled (j : Joining) (m : Grid) (table : List ℕ) (line : List LabelledCell)
    (r c : ℕ) : Type 0 where
  pub labels : List ℕ
  pub has_read : RootsExistForLabelsOfCellsRead j m table labels
  pub count : length labels ≡ r * m.region.cols + c
  pub is_line : IsLineOfLabelledCells m (length labels) (clump_label_at_position m labels) r c line

-- the neighbours of the cell at column c, given the neighbours of the previous cell and a line
abbrev pub neighbours_at_next_column : List LabelledCell → ℕ → EarlierNeighbours → EarlierNeighbours
neighbours_at_next_column line c near = record {
  left = near.left;
  upper_left = near.above;
  above = slice_index_or
      line c near.left;
  upper_right = slice_index_or line (c + 1) near.left;
}

-- `near` holds the left neighbours of the next cell
pub record AreLeftNeighboursOfCell (m : Grid) (count : ℕ) (label_of : Position
    → ℕ) (r c : ℕ) (near : EarlierNeighbours) : Type 0 where
  pub left : IsLabelledCellOfMapOrNull m count label_of (IsLeftNeighbour r c) near.left
  pub upper_left : IsLabelledCellOfMapOrNull m count label_of (IsUpperLeftNeighbour r c) near.above

-- the cells before column c were read, and the left neighbours of the next cell are known
pub record IsLabellingStateAtColumn (j : Joining) (m : Grid) (table : List ℕ) (line : List LabelledCell) (r c : ℕ)
    (near : EarlierNeighbours) : Type 0 where
  pub cells : AreCellsBeforeColumnLabelled j m table line r c
  pub beside : AreLeftNeighboursOfCell m (length cells.labels) (clump_label_at_position m cells.labels) r c near

-- the labels of the non-null neighbours are in the table
pub record AreNeighbourLabelsInTable (count : ℕ) (near : EarlierNeighbours) : Type 0 where
  pub left : (v : ℤ) → near.left.cell ≡ Some v → near.left.label < count
  pub upper_left : (v : ℤ) → near.upper_left.cell ≡ Some v → near.upper_left.label < count
  pub above : (v : ℤ) → near.above.cell ≡ Some v → near.above.label < count
  pub upper_right : (v : ℤ) → near.upper_right.cell ≡ Some v → near.upper_right.label < count

-- the cell can share a label: it is not null, and the table contains the labels of its neighbours
pub record CanShareNeighbourLabel (cell : CellValue) (table : List ℕ) (near : EarlierNeighbours) : Type 0 where
  pub some : IsSome cell
  pub down : LabelsPointToSmallerOrSelf table
  pub inside : AreNeighbourLabelsInTable (length table) near

-- for every map in which the next cell has these neighbours, reading the cell with this label keeps the labels correct
abbrev pub IsCorrectLabelForNextCell : Joining → CellValue → EarlierNeighbours → List ℕ → List ℕ → ℕ → Type 0
IsCorrectLabelForNextCell j cell near old new label = (m : Grid) (r c : ℕ) (labels : List ℕ)
    → cell ≡ cell_at_position m (position_at_row_and_column r c) → c < m.region.cols
    → length labels ≡ r * m.region.cols + c
    → AreEarlierNeighboursOfCell m (length labels) (clump_label_at_position m labels) r c near
    → RootsExistForLabelsOfCellsRead j m old labels → RootsExistForLabelsOfCellsRead j m new (labels ++ label ∷ [])

-- the cell shares the label of a neighbour of its category, and all neighbours of its category lead to one open label
pub record CellSharesNeighbourLabel (j : Joining) (m : Grid) (table labels : List ℕ) (before : ℕ
    → ℕ) (r c : ℕ) (v : ℤ) (label : ℕ) : Type 0 where
  pub after : ℕ → ℕ
  pub sound : LabelsLeadToConnectedRoots j m table after
  pub keeps : (a b : ℕ) → before a ≡ before b → after a ≡ after b
  pub from : Position
  pub earlier : IsEarlierNeighbour j r c from
  pub alike : cell_at_position m from ≡ Some v
  pub same : label ≡ clump_label_at_position m labels from
  pub meet : (q : Position) → IsEarlierNeighbour j r c q → cell_at_position m q ≡ Some v
      → after (clump_label_at_position m labels q) ≡ after label

-- in every map in which the cell has these neighbours, it shares the label
abbrev pub SharesNeighbourLabelInAnyMap : Joining → CellValue → EarlierNeighbours → List ℕ → List ℕ → ℕ → Type 0
SharesNeighbourLabelInAnyMap j cell near table new label = (m : Grid) (r c : ℕ) (v : ℤ) (labels : List ℕ) (open_of : ℕ
    → ℕ)
    → cell ≡ Some v → cell_at_position m (position_at_row_and_column r c) ≡ Some v
    → AreEarlierNeighboursOfCell m (length labels) (clump_label_at_position m labels) r c near
    → AreLabelsOfCellsRead j m table labels open_of → CellSharesNeighbourLabel j m new labels open_of r c v label

-- like `SharesNeighbourLabelInAnyMap`, for cells whose left and upper neighbours have other categories
abbrev pub SharesCornerLabelInAnyMap : CellValue → EarlierNeighbours → List ℕ → List ℕ → ℕ → Type 0
SharesCornerLabelInAnyMap cell near table new label = (m : Grid) (r c : ℕ) (v : ℤ) (labels : List ℕ) (open_of : ℕ → ℕ)
    → cell ≡ Some v → cell_at_position m (position_at_row_and_column r c) ≡ Some v
    → AreEarlierNeighboursOfCell m (length labels) (clump_label_at_position m labels) r c near
    → ((q : Position) → IsLeftNeighbour r c q ⊎ IsUpperNeighbour r c q → cell_at_position m q ≡ Some v → ⊥)
    → AreLabelsOfCellsRead EdgesAndCorners m table labels open_of
    → CellSharesNeighbourLabel EdgesAndCorners m new labels open_of r c v label

-- no earlier adjacent cell has the category of this cell
abbrev pub HasNoEqualEarlierNeighbour : Joining → CellValue → EarlierNeighbours → Type 0
HasNoEqualEarlierNeighbour j cell near = (m : Grid) (r c : ℕ) (v : ℤ) (count : ℕ) (label_of : Position → ℕ)
    → cell ≡ Some v → AreEarlierNeighboursOfCell m count label_of r c near → (q : Position)
    → IsEarlierNeighbour j r c q → cell_at_position m q ≡ Some v → ⊥

-- the label that the cell shares; if no earlier neighbour has its category, there is no label and the table stays
-- unchanged
abbrev pub IsLabelSharedWithNeighbour : Joining → CellValue → EarlierNeighbours → List ℕ → List ℕ → Option ℕ → Type 0
IsLabelSharedWithNeighbour j cell near old new None = (new ≡ old) × HasNoEqualEarlierNeighbour j cell near
IsLabelSharedWithNeighbour j cell near old new (Some label) = SharesNeighbourLabelInAnyMap j cell near old new label

-- like `IsLabelSharedWithNeighbour`, for neighbours at corners only
abbrev pub IsLabelSharedAtCorners : CellValue → EarlierNeighbours → List ℕ → List ℕ → Option ℕ → Type 0
IsLabelSharedAtCorners cell near old new None = (new ≡ old) × ((near.upper_left.cell ≢ cell)
    × (near.upper_right.cell ≢ cell))
IsLabelSharedAtCorners cell near old new (Some label) = SharesCornerLabelInAnyMap cell near old new label
