-- Rows of cells, column by column.
use Rattle.std.specs.Prelude.{ℕ, ◌≡◌, ◌<◌, All, List, Vec, None, length, slice_index_or, map}
use Rattle.std.specs.Global.{Global}
use Rattle.cell_core.specs.Grid.{CellValue}

-- the cell of a row at a column; null outside the row
abbrev pub at : List CellValue → ℕ → CellValue
at cells c = slice_index_or cells c None

-- the cells of rows at a column
abbrev pub cells_at_column : ℕ → List (List CellValue) → List CellValue
cells_at_column c rows = map (λ row. slice_index_or row c None) rows

-- the cells of arguments at a column
abbrev pub argument_cells_at_column : ℕ → List (Vec CellValue Global) → List CellValue
argument_cells_at_column c rows = cells_at_column c (map (λ cells. cells.items) rows)

-- all rows have this width
abbrev pub AreRowsOfWidth : ℕ → List (Vec CellValue Global) → Type 0
AreRowsOfWidth width rows = All (λ cells. length cells.items ≡ width) rows

-- the row contains this cell at each column
abbrev pub RowHoldsCellAtEachColumn : List CellValue → List CellValue → (ℕ → CellValue) → Type 0
RowHoldsCellAtEachColumn old new cell = (c : ℕ) → c < length old → at new c ≡ cell c
