-- Cells at the start of a row, stored as bytes or as cells.
use Rattle.std.specs.Prelude.{ℕ, zero, suc, ◌≡◌, ◌+◌, ◌*◌, ◌≤◌, Bool, true, List, [], ◌∷◌, take, drop, if◌then◌else◌}
use Rattle.cell_core.specs.Grid.{CellValue}
use Rattle.cell_core_values.specs.SmallCells.{cells_of_bytes}

-- the first n cells, taken from the bytes or from the row
abbrev pub first_cells_of_bytes_or_row : ℕ × Bool → List ℕ → List CellValue → List CellValue
first_cells_of_bytes_or_row front bytes row = if front.1 then cells_of_bytes (take front.0 bytes) else take front.0 row

-- the cells of a list, cut into rows of `cols` cells
abbrev pub cells_cut_into_rows : {X : Type 0} → ℕ → ℕ → List X → List (List X)
cells_cut_into_rows cols zero cells = []
cells_cut_into_rows cols (suc rows) cells = take cols cells ∷ cells_cut_into_rows cols rows (drop cols cells)

-- the number of cells at the start of a row, all of them if they are bytes; the line number stays within its limit
pub record IsCountOfCellsAtRowStart (cols line next : ℕ) (front : ℕ × Bool) : Type 0 where
  pub count : front.0 ≤ cols
  pub all : front.1 ≡ true → front.0 ≡ cols
  pub lines : next ≤ line + front.0 * 1048577
