-- Steps of expressions that give the same value for the same cells in every column of a row.
use Rattle.std.specs.Prelude.{◌≡◌, ℕ, pos, Bool, true, false}
use Rattle.cell_calc_grammar.specs.declared.step.Step.{Step}
use Rattle.cell_calc_grammar.specs.declared.step.Step.TheVariants as step
use Rattle.cell_calc_grammar.specs.declared.function.Function.{Function}
use Rattle.cell_calc_grammar.specs.declared.function.Function.TheVariants as function

-- the function is col()
abbrev pub is_col_function : Function → Bool
is_col_function function.Column = true
is_col_function f = false

-- the value of the step at a cell depends only on the cells there: it reads no neighbours and no column number
abbrev pub StepDependsOnlyOnOwnCells : Step ℕ → Type 0
StepDependsOnlyOnOwnCells (step.Map i down right) = (down ≡ pos 0) × (right ≡ pos 0)
StepDependsOnlyOnOwnCells (step.Call f n) = is_col_function f ≡ false
StepDependsOnlyOnOwnCells _ = Unit {0}
