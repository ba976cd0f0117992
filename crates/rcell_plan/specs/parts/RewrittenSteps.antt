-- The steps of an expression that is rewritten for a tile.
use Rattle.std.specs.Prelude.{ℕ, List, [], ◌∷◌}
use Rattle.cell_calc_grammar.specs.declared.function.Function.{Function}
use Rattle.cell_calc_grammar.specs.declared.function.Function.TheVariants.{Row, Column, RowCount, ColumnCount}
use Rattle.cell_calc_grammar.specs.declared.operator.Operator.TheVariants.{Plus}
use Rattle.cell_calc_grammar.specs.declared.step.Step.{Step}
use Rattle.cell_calc_grammar.specs.declared.step.Step.TheVariants.{Number, Map, Negated, Not, Binary, Call}
use Rattle.rcell_plan.specs.declared.rewriting.PlaceInFullMap.{PlaceInFullMap}

-- the steps of a call with n arguments
abbrev pub call_step_rewritten_for_tile : PlaceInFullMap → Function → ℕ → List (Step ℕ)
call_step_rewritten_for_tile p Row n = Call Row n ∷ Number p.top ∷ Binary Plus ∷ []
call_step_rewritten_for_tile p Column n = Call Column n ∷ Number p.left ∷ Binary Plus ∷ []
call_step_rewritten_for_tile p RowCount n = Number p.rows ∷ []
call_step_rewritten_for_tile p ColumnCount n = Number p.cols ∷ []
call_step_rewritten_for_tile p f n = Call f n ∷ []

-- the steps that replace a step
abbrev pub step_rewritten_for_tile : PlaceInFullMap → Step ℕ → List (Step ℕ)
step_rewritten_for_tile p (Call f n) = call_step_rewritten_for_tile p f n
step_rewritten_for_tile p (Number n) = Number n ∷ []
step_rewritten_for_tile p (Map i down right) = Map i down right ∷ []
step_rewritten_for_tile p Negated = Negated ∷ []
step_rewritten_for_tile p Not = Not ∷ []
step_rewritten_for_tile p (Binary op) = Binary op ∷ []
