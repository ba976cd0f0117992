-- Values over tiles: an expression has the same value over a tile as over the full map, if the tile contains everything
-- that it reads, or ends where the map ends.
use Rattle.std.specs.Prelude.{ℕ, ℤ, pos, ◌+ℤ◌, Some, slice_get, [], ◌∷◌, Bool, true, false, ◌||◌, ◌==◌, ◌≡◌, ◌≤◌, ◌<◌, ◌+◌, ◌⊎◌, max, List, All, if◌then◌else◌}
use Rattle.cell_core_values.specs.Region.{RegionValue}
use Rattle.cell_core.specs.Grid.{Grid, CellValue, RowsFillRegion}
use Rattle.cell_calc_grammar.specs.declared.function.Function.{Function}
use Rattle.cell_calc_grammar.specs.declared.function.Function.TheVariants.{Row, Column, RowCount, ColumnCount}
use Rattle.cell_calc_language.specs.Grammatical.{cell_count_up_or_left, cell_count_down_or_right}
use Rattle.cell_calc_language.specs.Applied.{PositionAndGridSize, grid_position, negated_cell, logical_negation_of_cell, operator_value, call_result}
use Rattle.cell_calc_language.specs.Offsets.{cell_of_optional_map}
use Rattle.cell_calc_grammar.specs.Tree.{fold_maps, fold_all}
use Rattle.cell_calc_language.specs.Formula.{Formula, Number, Map, Negated, Not, Binary, Call, ArgumentFormulas}
use Rattle.cell_calc_language.specs.Formula.{NoTrees, Then}
use Rattle.cell_calc_language.specs.Reach.{rows_read_above_by_formula, rows_read_below_by_formula}
use Rattle.cell_calc_language.specs.Value.{value}
use Rattle.cell_join_numbers.specs.Parts.{Rectangle, RowsAreCutOutOfMaps}

-- the number of columns to the left in an offset, if it is an offset of map i
abbrev pub columns_read_left_at_offset : ℕ → (place : ℕ) (down right : ℤ) → ℕ
columns_read_left_at_offset i j down right = if i == j then cell_count_up_or_left right else 0

-- the number of columns to the right in an offset, if it is an offset of map i
abbrev pub columns_read_right_at_offset : ℕ → (place : ℕ) (down right : ℤ) → ℕ
columns_read_right_at_offset i j down right = if i == j then cell_count_down_or_right right else 0

-- the largest number of columns to the left in an offset of map i
abbrev pub columns_read_left_by_formula : ℕ → Formula → ℕ
columns_read_left_by_formula i f = fold_maps (columns_read_left_at_offset i) 0 max f

abbrev pub columns_read_left_by_formulas : ℕ → ArgumentFormulas → ℕ
columns_read_left_by_formulas i xs = fold_all (columns_read_left_at_offset i) 0 max xs

-- the largest number of columns to the right in an offset of map i
abbrev pub columns_read_right_by_formula : ℕ → Formula → ℕ
columns_read_right_by_formula i f = fold_maps (columns_read_right_at_offset i) 0 max f

abbrev pub columns_read_right_by_formulas : ℕ → ArgumentFormulas → ℕ
columns_read_right_by_formulas i xs = fold_all (columns_read_right_at_offset i) 0 max xs

-- everything that an expression reads at a cell of a rectangle is inside the rectangle, or beyond a side that is the
-- border of the region
pub record ReadsInRectangleOrOutsideRegion (f : Formula) (region : RegionValue) (r : Rectangle)
    (row col : ℕ) : Type 0 where
  pub up : (place : ℕ) → (r.top ≡ 0) ⊎ (rows_read_above_by_formula place f ≤ row)
  pub down : (place : ℕ) → (region.rows ≤ r.top + r.rows) ⊎ (row + rows_read_below_by_formula place f < r.rows)
  pub left : (place : ℕ) → (r.left ≡ 0) ⊎ (columns_read_left_by_formula place f ≤ col)
  pub right : (place : ℕ) → (region.cols ≤ r.left + r.cols) ⊎ (col + columns_read_right_by_formula place f < r.cols)

abbrev mutual
  -- the expression calls one of these functions
  pub calls : (Function → Bool) → Formula → Bool
  calls these (Number n) = false
  calls these (Map i down right) = false
  calls these (Negated a) = calls these a
  calls these (Not a) = calls these a
  calls these (Binary op a b) = calls these a || calls these b
  calls these (Call f xs) = these f || call_any these xs

  pub call_any : (Function → Bool) → ArgumentFormulas → Bool
  call_any these NoTrees = false
  call_any these (Then a xs) = calls these a || call_any these xs

-- the function is row() or nrows(); the function is col() or ncols()
abbrev pub is_row_or_nrows_function : Function → Bool
is_row_or_nrows_function Row = true
is_row_or_nrows_function RowCount = true
is_row_or_nrows_function f = false

abbrev pub is_col_or_ncols_function : Function → Bool
is_col_or_ncols_function Column = true
is_col_or_ncols_function ColumnCount = true
is_col_or_ncols_function f = false

-- the rectangle contains everything that the expression reads; it has all rows if the expression uses row numbers, and
-- all columns if it uses column numbers
pub record ContainsExpressionHalo (f : Formula) (region : RegionValue) (r : Rectangle) (row col : ℕ) : Type 0 where
  pub reads : ReadsInRectangleOrOutsideRegion f region r row col
  pub rows : (calls is_row_or_nrows_function f ≡ false) ⊎ ((r.top ≡ 0) × (r.rows ≡ region.rows))
  pub cols : (calls is_col_or_ncols_function f ≡ false) ⊎ ((r.left ≡ 0) × (r.cols ≡ region.cols))

-- a halo is enough: the value over the tile equals the value over the full map
abbrev pub HaloIsEnough : Type 0
HaloIsEnough = (f : Formula) (whole part : List Grid) (region : RegionValue) (r : Rectangle) (row col : ℕ) → All (λ m. RowsFillRegion region m.rows) whole → RowsAreCutOutOfMaps r whole part → ContainsExpressionHalo f region r row col → value f part (record { rows = r.rows; cols = r.cols; row = row; col = col }) ≡ value f whole (grid_position region (r.top + row) (r.left + col))

abbrev mutual
  -- the value of an expression in which row() and similar functions return the position `reported`, while offsets are
  -- counted from `here`
  pub value_seen_from : Formula → List Grid → (here reported : PositionAndGridSize) → CellValue
  value_seen_from (Number n) maps here reported = Some (pos n)
  value_seen_from (Map i down right) maps here reported = cell_of_optional_map (slice_get maps i) (pos here.row +ℤ down) (pos here.col +ℤ right)
  value_seen_from (Negated a) maps here reported = negated_cell (value_seen_from a maps here reported)
  value_seen_from (Not a) maps here reported = logical_negation_of_cell (value_seen_from a maps here reported)
  value_seen_from (Binary op a b) maps here reported = operator_value op (value_seen_from a maps here reported) (value_seen_from b maps here reported)
  value_seen_from (Call f xs) maps here reported = call_result f reported (values_seen_from xs maps here reported)

  pub values_seen_from : ArgumentFormulas → List Grid → (here reported : PositionAndGridSize) → List CellValue
  values_seen_from NoTrees maps here reported = []
  values_seen_from (Then a xs) maps here reported = value_seen_from a maps here reported ∷ values_seen_from xs maps here reported

-- if row() and similar functions return the position in the full map, every expression has the same value over the tile
-- as over the full map
abbrev pub ReachAndPositionAreEnough : Type 0
ReachAndPositionAreEnough = (f : Formula) (whole part : List Grid) (region : RegionValue) (r : Rectangle) (row col : ℕ) → All (λ m. RowsFillRegion region m.rows) whole → RowsAreCutOutOfMaps r whole part → ReadsInRectangleOrOutsideRegion f region r row col → value_seen_from f part (record { rows = r.rows; cols = r.cols; row = row; col = col }) (grid_position region (r.top + row) (r.left + col)) ≡ value f whole (grid_position region (r.top + row) (r.left + col))
