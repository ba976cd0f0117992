-- The value of an expression at a cell (r.mapcalc manual; null outside the region is our own choice).
use Rattle.std.specs.Prelude.{pos, ◌+ℤ◌, List, [], ◌∷◌, Some, slice_get}
use Rattle.cell_core.specs.Grid.{Grid, CellValue}
use Rattle.cell_calc_language.specs.Applied.{PositionAndGridSize, negated_cell, logical_negation_of_cell}
use Rattle.cell_calc_language.specs.Applied.{operator_value, call_result}
use Rattle.cell_calc_language.specs.Offsets.{cell_of_optional_map}
use Rattle.cell_calc_language.specs.Formula.{Formula, Number, Map, Negated, Not, Binary, Call, ArgumentFormulas}
use Rattle.cell_calc_language.specs.Formula.{NoTrees, Then}

abbrev mutual
  -- the value of an expression over maps of one region at a position
  pub value : Formula → List Grid → PositionAndGridSize → CellValue
  value (Number n) maps s = Some (pos n)
  value (Map i down right) maps s = cell_of_optional_map (slice_get maps i) (pos s.row +ℤ down) (pos s.col +ℤ right)
  value (Negated a) maps s = negated_cell (value a maps s)
  value (Not a) maps s = logical_negation_of_cell (value a maps s)
  value (Binary op a b) maps s = operator_value op (value a maps s) (value b maps s)
  value (Call f xs) maps s = call_result f s (argument_values xs maps s)

  -- the values of arguments, in order
  pub argument_values : ArgumentFormulas → List Grid → PositionAndGridSize → List CellValue
  argument_values NoTrees maps s = []
  argument_values (Then a xs) maps s = value a maps s ∷ argument_values xs maps s
