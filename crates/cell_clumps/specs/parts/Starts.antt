-- The cells of a map that get a new label, in row order.
use Rattle.std.specs.Prelude.{ℕ, zero, suc, Bool, not, ◌||◌, ◌&&◌, ◌+◌, ◌*◌, ◌≡◌, ◌⊎◌, List, [], ◌∷◌, ◌++◌, length}
use Rattle.std.specs.Prelude.{None, is_some, slice_index_or, if◌then◌else◌}
use Rattle.cell_core_values.specs.Cell.{cell_eq}
use Rattle.cell_core.specs.Grid.{Grid, CellValue, cell_at}
use Rattle.cell_clumps.specs.declared.clump.Joining.{Joining}
use Rattle.cell_clumps.specs.declared.clump.Joining.TheVariants.{Edges, EdgesAndCorners}
use Rattle.cell_clumps.specs.Clumps.{Position, cell_at_position}
use Rattle.cell_clumps.specs.parts.CellPlaces.{position_at_row_and_column, position_at_place}

-- the position is row r, column c
abbrev pub IsPositionAtRowAndColumn : ℕ → ℕ → Position → Type 0
IsPositionAtRowAndColumn r c q = (q.row ≡ r) × (q.col ≡ c)

-- the position is this neighbour of the cell at row r, column c
abbrev pub IsLeftNeighbour : ℕ → ℕ → Position → Type 0
IsLeftNeighbour r c q = (q.row ≡ r) × (q.col + 1 ≡ c)

abbrev pub IsUpperNeighbour : ℕ → ℕ → Position → Type 0
IsUpperNeighbour r c q = (q.row + 1 ≡ r) × (q.col ≡ c)

abbrev pub IsUpperLeftNeighbour : ℕ → ℕ → Position → Type 0
IsUpperLeftNeighbour r c q = (q.row + 1 ≡ r) × (q.col + 1 ≡ c)

abbrev pub IsUpperRightNeighbour : ℕ → ℕ → Position → Type 0
IsUpperRightNeighbour r c q = (q.row + 1 ≡ r) × (q.col ≡ c + 1)

-- the position is an earlier neighbour of the cell at row r, column c
abbrev pub IsEarlierNeighbour : Joining → ℕ → ℕ → Position → Type 0
IsEarlierNeighbour Edges r c q = IsLeftNeighbour r c q ⊎ IsUpperNeighbour r c q
IsEarlierNeighbour EdgesAndCorners r c q = (IsLeftNeighbour r c q ⊎ IsUpperNeighbour r c q) ⊎
    (IsUpperLeftNeighbour r c q ⊎ IsUpperRightNeighbour r c q)

-- the neighbouring cells; null outside the map
abbrev pub cell_to_the_left : Grid → ℕ → ℕ → CellValue
cell_to_the_left m r zero = None
cell_to_the_left m r (suc c) = cell_at m r c

abbrev pub cell_to_the_north_of : Grid → ℕ → ℕ → CellValue
cell_to_the_north_of m zero c = None
cell_to_the_north_of m (suc r) c = cell_at m r c

abbrev pub cell_to_the_upper_left : Grid → ℕ → ℕ → CellValue
cell_to_the_upper_left m zero c = None
cell_to_the_upper_left m (suc r) c = cell_to_the_left m r c

abbrev pub cell_to_the_upper_right : Grid → ℕ → ℕ → CellValue
cell_to_the_upper_right m zero c = None
cell_to_the_upper_right m (suc r) c = cell_at m r (suc c)

-- an earlier neighbour has the category of the cell
abbrev pub has_equal_earlier_neighbour : Joining → Grid → ℕ → ℕ → Bool
has_equal_earlier_neighbour Edges m r c = cell_eq (cell_to_the_left m r c) (cell_at m r c) || cell_eq
    (cell_to_the_north_of m r c) (cell_at m r c)
has_equal_earlier_neighbour EdgesAndCorners m r c = (cell_eq (cell_to_the_left m r c) (cell_at m r c) || cell_eq
    (cell_to_the_north_of m r c) (cell_at m r c)) || (cell_eq (cell_to_the_upper_left m r c)
    (cell_at m r c) || cell_eq (cell_to_the_upper_right m r c) (cell_at m r c))

-- the cell gets a new label: it is not null, and no earlier neighbour has its category
abbrev pub cell_begins_new_label : Joining → Grid → Position → Bool
cell_begins_new_label j m p = is_some (cell_at_position m p) && not (has_equal_earlier_neighbour j m p.row p.col)

-- the cells that get a new label, among the first k cells
abbrev pub cells_that_begin_labels : Joining → Grid → ℕ → List Position
cells_that_begin_labels j m zero = []
cells_that_begin_labels j m (suc k) = if cell_begins_new_label j m
    (position_at_place m.region.cols k) then cells_that_begin_labels j m k ++ position_at_place m.region.cols k
    ∷ [] else cells_that_begin_labels j m k

-- the number of cells among the first k that get a new label
abbrev pub count_of_begun_labels : Joining → Grid → ℕ → ℕ
count_of_begun_labels j m k = length (cells_that_begin_labels j m k)

-- the cell that label k was created for
unfoldable pub cell_that_began_label : Joining → Grid → ℕ → Position
cell_that_began_label j m k = slice_index_or (cells_that_begin_labels j m (m.region.rows * m.region.cols)) k
    (position_at_row_and_column 0 0)
