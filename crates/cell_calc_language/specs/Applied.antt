-- The values of operators and functions, given the values of their operands (r.mapcalc manual; the range and division
-- by zero are our own choice).
use Rattle.std.specs.Prelude.{ℕ, ℤ, pos, ◌+◌, ◌+ℤ◌, ◌-ℤ◌, ◌*ℤ◌, neg_ℤ, unsigned_abs, int_div, int_lt, int_le, not, ◌&&◌, ◌||◌, List, Some, None, if◌then◌else◌}
use Rattle.cell_core.specs.Grid.{CellValue}
use Rattle.cell_core_values.specs.Region.{RegionValue}
use Rattle.cell_calc_language.specs.CellOperators.{category_or_null, is_zero, is_null, cell_of_truth_value, applied_unless_null, applied_unless_either_null, and_despite_null, or_despite_null, first_argument_cell, last_argument_cell, if_call_value, least, greatest_cell, mode, most_frequent, non_null_cells}
use Rattle.cell_calc_grammar.specs.declared.function.Function.{Function}
use Rattle.cell_calc_grammar.specs.declared.function.Function.TheVariants as function
use Rattle.cell_calc_grammar.specs.declared.operator.Operator.{Operator}
use Rattle.cell_calc_grammar.specs.declared.operator.Operator.TheVariants as operator

-- a position, counted from 0, and the size of the grid
pub record PositionAndGridSize : Type 0 where
  pub rows : ℕ
  pub cols : ℕ
  pub row : ℕ
  pub col : ℕ

-- the position at a row and a column of a region
abbrev pub grid_position : RegionValue → (row col : ℕ) → PositionAndGridSize
grid_position region row col = record { rows = region.rows; cols = region.cols; row = row; col = col }

-- the negation of a cell; its logical negation: 1 if the cell is 0, otherwise 0; its absolute value
abbrev pub negated_cell : CellValue → CellValue
negated_cell a = applied_unless_null (λ x. category_or_null (neg_ℤ x)) a

abbrev pub logical_negation_of_cell : CellValue → CellValue
logical_negation_of_cell a = applied_unless_null (λ x. cell_of_truth_value (is_zero x)) a

abbrev pub absolute_value_of_cell : CellValue → CellValue
absolute_value_of_cell a = applied_unless_null (λ x. category_or_null (pos (unsigned_abs x))) a

-- the value of an operator
abbrev pub operator_value : Operator → CellValue → CellValue → CellValue
operator_value operator.Times a b = applied_unless_either_null (λ x y. category_or_null (x *ℤ y)) a b
operator_value operator.Divide a b = applied_unless_either_null (λ x y. if is_zero y then None else category_or_null
    (int_div x y)) a b
operator_value operator.Modulo a b = applied_unless_either_null (λ x y. if is_zero y then None else category_or_null
    (x -ℤ (y *ℤ int_div x y))) a b
operator_value operator.Plus a b = applied_unless_either_null (λ x y. category_or_null (x +ℤ y)) a b
operator_value operator.Minus a b = applied_unless_either_null (λ x y. category_or_null (x -ℤ y)) a b
operator_value operator.Less a b = applied_unless_either_null (λ x y. cell_of_truth_value (int_lt x y)) a b
operator_value operator.LessEqual a b = applied_unless_either_null (λ x y. cell_of_truth_value (int_le x y)) a b
operator_value operator.Greater a b = applied_unless_either_null (λ x y. cell_of_truth_value (int_lt y x)) a b
operator_value operator.GreaterEqual a b = applied_unless_either_null (λ x y. cell_of_truth_value (int_le y x)) a b
operator_value operator.Equal a b = applied_unless_either_null (λ x y. cell_of_truth_value (int_le x y
    && int_le y x)) a b
operator_value operator.NotEqual a b = applied_unless_either_null (λ x y. cell_of_truth_value (not (int_le x y
    && int_le y x))) a b
operator_value operator.And a b = applied_unless_either_null (λ x y. cell_of_truth_value (not (is_zero x)
    && not (is_zero y))) a b
operator_value operator.Or a b = applied_unless_either_null (λ x y. cell_of_truth_value
    (not (is_zero x) || not (is_zero y))) a b
operator_value operator.KnownAnd a b = and_despite_null a b
operator_value operator.KnownOr a b = or_despite_null a b

-- the value of a function, given the values of its arguments
abbrev pub call_result : Function → PositionAndGridSize → List CellValue → CellValue
call_result function.If s xs = if_call_value xs
call_result function.IsNull s xs = cell_of_truth_value (is_null (first_argument_cell xs))
call_result function.Null s xs = None
call_result function.Abs s xs = absolute_value_of_cell (first_argument_cell xs)
call_result function.Min s xs = least xs
call_result function.Max s xs = greatest_cell xs
call_result function.Mode s xs = mode xs
call_result function.Row s xs = Some (pos (s.row + 1))
call_result function.Column s xs = Some (pos (s.col + 1))
call_result function.RowCount s xs = Some (pos s.rows)
call_result function.ColumnCount s xs = Some (pos s.cols)
call_result function.Eval s xs = last_argument_cell xs
call_result function.KnownMin s xs = least (non_null_cells xs)
call_result function.KnownMax s xs = greatest_cell (non_null_cells xs)
call_result function.KnownMode s xs = most_frequent (non_null_cells xs)
