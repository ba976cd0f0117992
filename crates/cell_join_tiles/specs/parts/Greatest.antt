-- The largest number in a map.
use Rattle.std.specs.Prelude.{ℕ, pos, negsuc, List, [], ◌∷◌, Some, None, max}
use Rattle.cell_core.specs.Grid.{CellValue}

-- the larger of a number and the number in a cell
abbrev pub greater_of_number_and_cell : ℕ → CellValue → ℕ
greater_of_number_and_cell most None = most
greater_of_number_and_cell most (Some (pos n)) = max most n
greater_of_number_and_cell most (Some (negsuc n)) = most

-- the largest of a number and the numbers in cells
abbrev pub greatest_of_number_and_cells : ℕ → List CellValue → ℕ
greatest_of_number_and_cells most [] = most
greatest_of_number_and_cells most (cell ∷ cells) = greatest_of_number_and_cells
    (greater_of_number_and_cell most cell) cells

-- the largest of a number and the numbers in rows of cells
abbrev pub greatest_of_number_and_rows : ℕ → List (List CellValue) → ℕ
greatest_of_number_and_rows most [] = most
greatest_of_number_and_rows most (row ∷ rows) = greatest_of_number_and_rows (greatest_of_number_and_cells most row) rows
