-- The cells of a row, one by one.
use Rattle.std.specs.Prelude.{ℕ, List, [], ◌∷◌, drop}
use Rattle.cell_core.specs.Grid.{CellValue}
use Rattle.cell_stats_combinations.specs.declared.skip.Skip.{Skip}
use Rattle.cell_stats_combinations.specs.Combinations.{Combination}
use Rattle.cell_stats_counts.specs.Counts.{cell_count_of_combination}
use Rattle.cell_stats_combinations.specs.LeftOut.{kept_cells}

-- the combinations of the cells of two rows
abbrev pub combinations_of_two_rows : List CellValue → List CellValue → List Combination
combinations_of_two_rows [] ys = []
combinations_of_two_rows (x ∷ xs) [] = []
combinations_of_two_rows (x ∷ xs) (y ∷ ys) = (x ∷ y ∷ []) ∷ combinations_of_two_rows xs ys

-- the number of cells from a column on that have a combination and are not left out
abbrev pub combination_cell_count_from_column : Skip → Combination → List Combination → ℕ → ℕ
combination_cell_count_from_column skip k cells col = cell_count_of_combination k (kept_cells skip (drop col cells))
