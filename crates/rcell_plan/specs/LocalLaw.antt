-- Local expressions read only the cell itself, so their values depend only on combinations (r.mapcalc and r.stats
-- manuals).
use Rattle.std.specs.Prelude.{ℕ, pos, ◌≡◌, Bool, true, false, List, [], ◌∷◌, Contains, filter, sum_by}
use Rattle.cell_core_values.specs.Cell.{cell_eq}
use Rattle.cell_core_values.specs.Region.{RegionValue}
use Rattle.cell_core.specs.Grid.{Grid, CellValue}
use Rattle.cell_core.specs.Shelf.{ShelfValue}
use Rattle.cell_calc_grammar.specs.declared.function.Function.{Function}
use Rattle.cell_calc_grammar.specs.declared.function.Function.TheVariants.{Row, Column, RowCount, ColumnCount}
use Rattle.cell_calc_language.specs.Applied.{PositionAndGridSize}
use Rattle.cell_calc_language.specs.Compact.{ReadsMap}
use Rattle.cell_calc_language.specs.Formula.{Formula, Number, Map, Negated, Not, Binary, Call, ArgumentFormulas}
use Rattle.cell_calc_language.specs.Formula.{NoTrees, Then}
use Rattle.cell_calc_language.specs.Value.{value}
use Rattle.cell_stats_combinations.specs.Combinations.{Combination, combination_at_row_and_column, all_combinations}
use Rattle.cell_stats_combinations.specs.declared.skip.Skip.TheVariants.{Nothing}
use Rattle.cell_stats_counts.specs.Counts.{cell_count_of_combination}
use Rattle.cell_stats.specs.CategoryTables.{table_of_cells}
use Rattle.rcell.specs.Making.{IsMapOfExpressionValues}

-- the function is row(), col(), nrows() or ncols()
abbrev pub is_position_function : Function → Bool
is_position_function Row = true
is_position_function Column = true
is_position_function RowCount = true
is_position_function ColumnCount = true
is_position_function f = false

abbrev mutual
  -- the expression reads its maps only at the cell itself, and uses no row or column number
  pub IsLocal : Formula → Type 0
  IsLocal (Number n) = Unit {0}
  IsLocal (Map i down right) = (down ≡ pos 0) × (right ≡ pos 0)
  IsLocal (Negated a) = IsLocal a
  IsLocal (Not a) = IsLocal a
  IsLocal (Binary op a b) = IsLocal a × IsLocal b
  IsLocal (Call f xs) = (is_position_function f ≡ false) × AreLocal xs

  -- each argument is local
  pub AreLocal : ArgumentFormulas → Type 0
  AreLocal NoTrees = Unit {0}
  AreLocal (Then a xs) = IsLocal a × AreLocal xs

-- each map that the expression reads is picked
abbrev pub ReadsOnlyPickedMaps : List ℕ → Formula → Type 0
ReadsOnlyPickedMaps picks f = (place : ℕ) → ReadsMap place f → Contains picks place

-- a local expression has the same value at all cells with the same combination of the maps that it reads
abbrev pub SameCombinationGivesSameValue : Type 0
SameCombinationGivesSameValue =
    (f : Formula) (picks : List ℕ) → IsLocal f → ReadsOnlyPickedMaps picks f
    → (maps : List Grid) (s t : PositionAndGridSize)
    → combination_at_row_and_column maps picks s.row s.col ≡ combination_at_row_and_column maps picks t.row t.col
    → value f maps s ≡ value f maps t

-- a function of the combination gives the values of the expression, at all cells of all maps
abbrev pub FunctionGivesFormulaValues : (Combination → CellValue) → Formula → List ℕ → Type 0
FunctionGivesFormulaValues given f picks =
    (maps : List Grid) (s : PositionAndGridSize) → value f maps s
    ≡ given (combination_at_row_and_column maps picks s.row s.col)

-- for every local expression, a function of the combination gives its values
abbrev pub CombinationDeterminesValue : Type 0
CombinationDeterminesValue =
    (f : Formula) (picks : List ℕ) → IsLocal f → ReadsOnlyPickedMaps picks f
    → (given : Combination → CellValue) × FunctionGivesFormulaValues given f picks

-- the cells of a single map, as combinations
abbrev pub cells_as_combinations : RegionValue → Grid → List Combination
cells_as_combinations region m = all_combinations (m ∷ []) (0 ∷ []) region.rows region.cols

-- the cells of the picked maps of a shelf, as combinations
abbrev pub combinations_of_picked_maps : ShelfValue → List ℕ → List Combination
combinations_of_picked_maps shelf picks = all_combinations shelf.maps picks shelf.region.rows shelf.region.cols

-- after `x = f`, the number of cells of x with a given value is the sum of the counts of the combinations that give
-- this value
abbrev pub ValueCountSumsCombinations : Type 0
ValueCountSumsCombinations =
    (f : Formula) (picks : List ℕ) (given : Combination → CellValue) → FunctionGivesFormulaValues given f picks
    → (shelf : ShelfValue) (x : Grid) → IsMapOfExpressionValues f shelf x → (v : CellValue)
    → cell_count_of_combination (v ∷ []) (cells_as_combinations shelf.region x)
    ≡ sum_by (λ pair. pair.1)
    (filter (λ pair. cell_eq v (given pair.0)) (table_of_cells Nothing (combinations_of_picked_maps shelf picks)))
