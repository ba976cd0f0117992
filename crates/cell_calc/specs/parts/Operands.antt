-- Values along a strip: adjacent columns of a row.
use Rattle.std.specs.Prelude.{◌≡◌, ◌≤◌, ◌<◌, ◌+◌, ◌-◌, ◌+ℤ◌, ℕ, pos, All, List, [], ◌∷◌, Vec, Some, None, length, take, drop, map, slice_get, slice_index_or}
use Rattle.std.specs.Global.{Global}
use Rattle.cell_core.specs.Grid.{CellValue}
use Rattle.cell_calc_language.specs.Applied.{PositionAndGridSize, grid_position, operator_value, call_result, negated_cell, logical_negation_of_cell}
use Rattle.cell_calc_language.specs.Offsets.{item_at_integer_or_default}
use Rattle.cell_calc.specs.Window.{RowWindowValue}
use Rattle.cell_calc_grammar.specs.Postfix.{arity_of_step, operands_after_steps}
use Rattle.cell_calc_grammar.specs.declared.step.Step.{Step}
use Rattle.cell_calc_grammar.specs.declared.function.Function.{Function}
use Rattle.cell_calc_grammar.specs.declared.step.Step.TheVariants as step
use Rattle.cell_calc.specs.declared.strip.Operand.{Operand}
use Rattle.cell_calc.specs.declared.strip.Operand.TheVariants as operand
use Rattle.cell_calc.specs.declared.strip.RowStrip.{RowStrip}
use Rattle.cell_calc.specs.RowValues.{at, AreRowsOfWidth, argument_cells_at_column}
use Rattle.cell_calc.specs.WindowsOver.{row_below_window_centre}
use Rattle.cell_calc.specs.parts.InReach.{SomeWindowReachesOffset}

-- the last n operands, and the operands before them
abbrev pub last_operands : {X : Type 0} → ℕ → List X → List X
last_operands n operands = drop (length operands - n) operands

abbrev pub operands_before_last : {X : Type 0} → ℕ → List X → List X
operands_before_last n operands = take (length operands - n) operands

-- the strip is inside a region
pub record IsStripInsideRegion (strip : RowStrip) : Type 0 where
  pub row : strip.row < strip.region.rows
  pub columns : strip.from + strip.width ≤ strip.region.cols
  pub most : strip.region.cols ≤ 65535

-- the statement holds for each column of the strip
abbrev pub HoldsAtEachStripColumn : RowStrip → (ℕ → Type 0) → Type 0
HoldsAtEachStripColumn strip P = (c : ℕ) → c < strip.width → P c

-- the row is as wide as the strip
abbrev pub IsRowAsWideAsStrip : RowStrip → Vec CellValue Global → Type 0
IsRowAsWideAsStrip strip row = length row.items ≡ strip.width

-- the row is as wide as the strip and contains these cells
pub record RowHasCellsAlongStrip (strip : RowStrip) (cell : ℕ → CellValue) (row : Vec CellValue Global) : Type 0 where
  pub width : IsRowAsWideAsStrip strip row
  pub each : HoldsAtEachStripColumn strip (λ c. at row.items c ≡ cell c)

-- the step can be evaluated: its number is a category, or its map's window reaches the offset
abbrev pub CanEvaluateStep : List RowWindowValue → Step ℕ → Type 0
CanEvaluateStep windows (step.Number n) = n ≤ 2147483647
CanEvaluateStep windows (step.Map i down right) = SomeWindowReachesOffset down (slice_get windows i)
CanEvaluateStep windows step.Negated = Unit {0}
CanEvaluateStep windows step.Not = Unit {0}
CanEvaluateStep windows (step.Binary op) = Unit {0}
CanEvaluateStep windows (step.Call f n) = Unit {0}

-- the operand can be read along the strip: a category, a map whose window reaches the offset, or a row as wide as the
-- strip
abbrev pub CanReadOperand : List RowWindowValue → RowStrip → Operand → Type 0
CanReadOperand windows strip (operand.Number n) = n ≤ 2147483647
CanReadOperand windows strip (operand.Map i down right) = SomeWindowReachesOffset down (slice_get windows i)
CanReadOperand windows strip (operand.Row cells) = length cells.items ≡ strip.width

-- the cell of an operand in column c of a strip
abbrev pub operand_cell_in_strip_column : List RowWindowValue → RowStrip → ℕ → Operand → CellValue
operand_cell_in_strip_column windows strip c (operand.Number n) = Some (pos n)
operand_cell_in_strip_column windows strip c (operand.Map i down right) = item_at_integer_or_default None (row_below_window_centre down (slice_get windows i)) (pos (strip.from + c) +ℤ right)
operand_cell_in_strip_column windows strip c (operand.Row cells) = at cells.items c

-- the cells of operands in column c of a strip
abbrev pub operand_cells_in_strip_column : List RowWindowValue → RowStrip → ℕ → List Operand → List CellValue
operand_cells_in_strip_column windows strip c operands = map (operand_cell_in_strip_column windows strip c) operands

-- the result of a step on cells, where maps are read from windows
abbrev pub step_result_from_windows : List RowWindowValue → PositionAndGridSize → Step ℕ → List CellValue
    → CellValue
step_result_from_windows windows s (step.Number n) xs = Some (pos n)
step_result_from_windows windows s (step.Map i down right) xs = item_at_integer_or_default None (row_below_window_centre down (slice_get windows i)) (pos s.col +ℤ right)
step_result_from_windows windows s step.Negated xs = negated_cell (slice_index_or xs 0 None)
step_result_from_windows windows s step.Not xs = logical_negation_of_cell (slice_index_or xs 0 None)
step_result_from_windows windows s (step.Binary op) xs = operator_value op (slice_index_or xs 0 None)
    (slice_index_or xs 1 None)
step_result_from_windows windows s (step.Call f n) xs = call_result f s xs

-- the position of column c of a strip
abbrev pub position_of_strip_column : RowStrip → ℕ → PositionAndGridSize
position_of_strip_column strip c = grid_position strip.region strip.row (strip.from + c)

-- the strip is valid, and at least `count` operands are ready
pub record HasReadyOperandsForStrip (s : RowStrip) (windows : List RowWindowValue) (count : ℕ)
    (operands : List Operand) : Type 0 where
  pub strip : IsStripInsideRegion s
  pub enough : count ≤ length operands
  pub ready : All (CanReadOperand windows s) operands

-- the operand is the result of a step on the last operands, which are removed
pub record OperandIsResultOfStep (strip : RowStrip) (windows : List RowWindowValue) (s : Step ℕ) (old new : List Operand) (o : Operand) : Type 0 where
  pub rest : new ≡ operands_before_last (arity_of_step s) old
  pub ready : CanReadOperand windows strip o
  pub each : HoldsAtEachStripColumn strip (λ c. operand_cell_in_strip_column windows strip c o
      ≡ step_result_from_windows windows (position_of_strip_column strip c) s
      (operand_cells_in_strip_column windows strip c
      (last_operands (arity_of_step s) old)))

-- the row contains the values of a function of the last `count` operands, which are removed
pub record IsRowOfFunctionCall (strip : RowStrip) (windows : List RowWindowValue) (f : Function) (count : ℕ) (old new : List Operand) (row : Vec CellValue Global) : Type 0 where
  pub rest : new ≡ operands_before_last count old
  pub width : IsRowAsWideAsStrip strip row
  pub each : HoldsAtEachStripColumn strip (λ c. at row.items c ≡ call_result f (position_of_strip_column strip c) (operand_cells_in_strip_column windows strip c (last_operands count old)))

-- the rows contain the last `count` operands, which are removed
pub record AreRowsOfLastOperands (strip : RowStrip) (windows : List RowWindowValue) (count : ℕ) (old new : List Operand) (rows : List (Vec CellValue Global)) : Type 0 where
  pub rest : new ≡ operands_before_last count old
  pub width : AreRowsOfWidth strip.width rows
  pub each : HoldsAtEachStripColumn strip (λ c. argument_cells_at_column c rows
      ≡ operand_cells_in_strip_column windows strip c (last_operands count old))

-- the row is as wide as the strip and contains the values after these steps
pub record RowHasValuesAfterSteps (strip : RowStrip) (windows : List RowWindowValue) (steps : List (Step ℕ)) (row : Vec CellValue Global) : Type 0 where
  pub width : IsRowAsWideAsStrip strip row
  pub each : HoldsAtEachStripColumn strip (λ c. at row.items c ∷ [] ≡ operands_after_steps (step_result_from_windows windows (position_of_strip_column strip c)) steps [])
