-- Expressions whose value depends only on the category of one cell.
use Rattle.std.specs.Prelude.{◌≡◌, ℕ, pos, Bool, true, false, All, List, [], Some, None, slice_index_or}
use Rattle.cell_core.specs.Grid.{CellValue}
use Rattle.cell_core_values.specs.Region.{RegionValue}
use Rattle.cell_calc_language.specs.Applied.{grid_position, operator_value, call_result, negated_cell}
use Rattle.cell_calc_language.specs.Applied.{logical_negation_of_cell}
use Rattle.cell_calc_language.specs.Formula.{Formula}
use Rattle.cell_calc_grammar.specs.Postfix.{postfix, operands_after_steps}
use Rattle.cell_calc_grammar.specs.declared.step.Step.{Step}
use Rattle.cell_calc_grammar.specs.declared.step.Step.TheVariants as step
use Rattle.cell_calc_grammar.specs.declared.function.Function.{Function}
use Rattle.cell_calc_grammar.specs.declared.function.Function.TheVariants as function
use Rattle.cell_calc.specs.RowValues.{at}

-- the function is row() or col()
abbrev pub is_row_or_col_function : Function → Bool
is_row_or_col_function function.Row = true
is_row_or_col_function function.Column = true
is_row_or_col_function f = false

-- the step reads at most the first map, at the cell itself, and does not use the cell's position
abbrev pub StepDependsOnlyOnCategory : Step ℕ → Type 0
StepDependsOnlyOnCategory (step.Map i down right) = (i ≡ 0) × ((down ≡ pos 0) × (right ≡ pos 0))
StepDependsOnlyOnCategory (step.Call f n) = is_row_or_col_function f ≡ false
StepDependsOnlyOnCategory _ = Unit {0}

-- every step reads at most the first map, at the cell itself, and does not use the cell's position
abbrev pub DependsOnlyOnCategory : Formula → Type 0
DependsOnlyOnCategory f = All StepDependsOnlyOnCategory (postfix f)

-- the result of a step if the first map's cell is x
abbrev pub step_result_for_first_map_cell : RegionValue → CellValue → Step ℕ → List CellValue → CellValue
step_result_for_first_map_cell region x (step.Number n) xs = Some (pos n)
step_result_for_first_map_cell region x (step.Map i down right) xs = x
step_result_for_first_map_cell region x step.Negated xs = negated_cell (slice_index_or xs 0 None)
step_result_for_first_map_cell region x step.Not xs = logical_negation_of_cell (slice_index_or xs 0 None)
step_result_for_first_map_cell region x (step.Binary op) xs = operator_value op (slice_index_or xs 0 None)
    (slice_index_or xs 1 None)
step_result_for_first_map_cell region x (step.Call f n) xs = call_result f (grid_position region 0 0) xs

-- the value of the expression if the first map's cell is x
abbrev pub formula_value_for_first_map_cell : RegionValue → Formula → CellValue → CellValue
formula_value_for_first_map_cell region f x = at (operands_after_steps (step_result_for_first_map_cell region x)
    (postfix f) []) 0
