-- Tables of values by category.
use Rattle.std.specs.Prelude.{◌≡◌, ◌<◌, ℕ, List, map, slice_index_or}
use Rattle.cell_core.specs.Grid.{CellValue}
use Rattle.cell_core_values.specs.SmallCells.{cell_of_stored_byte}
use Rattle.cell_calc.specs.RowValues.{at}
use Rattle.cell_calc_categories.specs.declared.span.CategoryInterval.{CategoryInterval}
use Rattle.cell_calc_categories.specs.parts.CategorySpans.{IsCellInCategoryInterval, IsTablePlaceOfCell}

-- the table contains the value of each cell at the cell's index
abbrev pub IsTableOfFunctionValues : (CellValue → CellValue) → CategoryInterval → List CellValue → Type 0
IsTableOfFunctionValues f s table = (x : CellValue) (p : ℕ) → IsCellInCategoryInterval s x → IsTablePlaceOfCell s p x
    → at table p ≡ f x

-- the bytes stand for the values of the cells stored as bytes
abbrev pub AreValueBytesOfByteCells : (CellValue → CellValue) → List ℕ → Type 0
AreValueBytesOfByteCells f bytes = (b : ℕ) → b < 256 → cell_of_stored_byte (slice_index_or bytes b 0)
    ≡ f (cell_of_stored_byte b)

-- the rows of a map, with a function applied to each cell
abbrev pub rows_with_function_applied : (CellValue → CellValue) → List (List CellValue) → List (List CellValue)
rows_with_function_applied f rows = map (λ row. map f row) rows
