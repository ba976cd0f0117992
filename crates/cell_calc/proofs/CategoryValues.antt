-- The value of an expression that depends only on the category of one cell.
use Rattle.std.proofs.Common.{◌≡◌, ◌<◌, ◌+◌, ℕ, zero, suc, pos, ◌+ℤ◌, List, [], ◌∷◌, length, map, get_or, refl, sym}
use Rattle.std.proofs.Common.{ap, ◌∙◌, arith, Option, Some, None, false}
use Rattle.std.specs.Prelude.{All, IfSome, slice_get}
use Rattle.std.proofs.lemmas.Int.{ints}
use Rattle.std.proofs.lemmas.List.{get_or-map, length-map}
use Rattle.cell_core.specs.Grid.{Grid, CellValue, cell_at, row_at, RowsFillRegion, empty_category_labels}
use Rattle.cell_core_values.specs.Region.{RegionValue}
use Rattle.cell_calc_language.specs.Applied.{grid_position, call_result}
use Rattle.cell_calc_language.specs.Formula.{Formula}
use Rattle.cell_calc_language.specs.Offsets.{cell_of_optional_map}
use Rattle.cell_calc_language.specs.Reach.{FormulaIsWithinLimits}
use Rattle.cell_calc_language.specs.Value.{value}
use Rattle.cell_calc_language.specs.parts.TreeSteps.{StepIsWithinLimits}
use Rattle.cell_calc_language.proofs.FormulaSteps.{proper_steps}
use Rattle.cell_calc_grammar.specs.Postfix.{postfix, operands_after_steps}
use Rattle.cell_calc_grammar.specs.declared.function.Function.{Function}
use Rattle.cell_calc_grammar.specs.declared.function.Function.TheVariants as function
use Rattle.cell_calc_grammar.specs.declared.step.Step.{Step}
use Rattle.cell_calc_grammar.specs.declared.step.Step.TheVariants as step
use Rattle.cell_calc.specs.CommonStretches.{centre_row}
use Rattle.cell_calc.specs.RowValues.{at}
use Rattle.cell_calc.specs.Window.{RowWindowValue, WindowReachesOffset}
use Rattle.cell_calc.specs.ByCategory.{is_row_or_col_function, StepDependsOnlyOnCategory, DependsOnlyOnCategory}
use Rattle.cell_calc.specs.ByCategory.{step_result_for_first_map_cell, formula_value_for_first_map_cell}
use Rattle.cell_calc.specs.parts.Operands.{CanEvaluateStep, step_result_from_windows}
use Rattle.cell_calc.proofs.Values.{over_maps, value_after, after_same}

-- a window of one row is ready for each step that depends only on a category
ready_step : (w : RowWindowValue) (s : Step ℕ) → StepIsWithinLimits s → StepDependsOnlyOnCategory s
    → CanEvaluateStep (w ∷ []) s
ready_step w (step.Number n) p is = p
ready_step w (step.Map i down right) p is =
    let own : WindowReachesOffset w (pos 0) = record { up = omega (arith, ints); down = omega (arith, ints) } in
    rw (is.0, is.1.0) own
ready_step w _ p is = tt

pub ready_window : (f : Formula) (w : RowWindowValue) → FormulaIsWithinLimits f → DependsOnlyOnCategory f
    → All (CanEvaluateStep (w ∷ [])) (postfix f)
ready_window f w proper is = λ k d lt. ready_step w (get_or (postfix f) k d) (proper_steps f proper k d lt)
    (is k d lt)

-- a function that does not ask for the cell's position has the same result everywhere
call_anywhere : (f : Function) (region : RegionValue) (row col : ℕ) (xs : List CellValue)
    → is_row_or_col_function f ≡ false
    → call_result f (grid_position region row col) xs ≡ call_result f (grid_position region 0 0) xs
call_anywhere function.Row region row col xs not = absurd (let no : ⊥ = cc in no)
call_anywhere function.Column region row col xs not = absurd (let no : ⊥ = cc in no)
call_anywhere _ region row col xs not = refl

plus_zero : (n : ℕ) → n + 0 ≡ n
plus_zero n = omega arith

seen_step : (region : RegionValue) (w : RowWindowValue) (row k : ℕ) (s : Step ℕ) → StepDependsOnlyOnCategory s
    → (xs : List CellValue)
    → step_result_from_windows (w ∷ []) (grid_position region row k) s xs
    ≡ step_result_for_first_map_cell region (at (centre_row w) k) s xs
seen_step region w row k (step.Map i down right) is xs = rw (is.0, is.1.0, is.1.1) (rw (plus_zero k) refl)
seen_step region w row k (step.Call f n) is xs = call_anywhere f region row k xs is
seen_step region w row k _ is xs = refl

-- the value at a cell of a window's row depends only on that cell
pub seen_value : (region : RegionValue) (w : RowWindowValue) (row k : ℕ) (steps : List (Step ℕ))
    → All StepDependsOnlyOnCategory steps
    → operands_after_steps (step_result_from_windows (w ∷ []) (grid_position region row k)) steps []
    ≡ operands_after_steps (step_result_for_first_map_cell region (at
    (centre_row w) k)) steps []
seen_value region w row k steps is =
    after_same (step_result_from_windows (w ∷ []) (grid_position region row k))
    (step_result_for_first_map_cell region (at (centre_row w) k)) steps
    (λ i d lt. seen_step region w row k (get_or steps i d) (is i d lt)) []

map_step : (region : RegionValue) (m : Grid) (maps : List Grid) (r c : ℕ) (s : Step ℕ)
    → slice_get maps 0 ≡ Some m → StepDependsOnlyOnCategory s
    → (xs : List CellValue) → step_result_for_first_map_cell region (cell_at m r c) s xs
    ≡ over_maps maps (grid_position region r c) s xs
map_step region m maps r c (step.Map i down right) first is xs =
    let here : cell_of_optional_map (slice_get maps 0) (pos (r + 0)) (pos (c + 0)) ≡ cell_at m r c = rw
    (first, plus_zero r, plus_zero c) refl in
    rw (is.0, is.1.0, is.1.1) (sym here)
map_step region m maps r c (step.Call f n) first is xs = sym (call_anywhere f region r c xs is)
map_step region m maps r c _ first is xs = refl

-- the value at a cell of the map is the value of the expression there
pub value_by_category : (f : Formula) (region : RegionValue) (m : Grid) (maps : List Grid) (r c : ℕ)
    → slice_get maps 0 ≡ Some m
    → DependsOnlyOnCategory f → formula_value_for_first_map_cell region f (cell_at m r c)
    ≡ value f maps (grid_position region r c)
value_by_category f region m maps r c first is =
    let s = grid_position region r c in
    ap (λ l. at l 0) (after_same (step_result_for_first_map_cell region (cell_at m r c)) (over_maps maps s) (postfix f)
    (λ k d lt. map_step region m maps r c (get_or (postfix f) k d) first (is k d lt)) [] ∙ value_after maps s f)

-- a row that contains a function's result for each cell is the function mapped over the cells
pub map_of_each : (f : CellValue → CellValue) (new old : List CellValue) → length new ≡ length old
    → ((c : ℕ) → c < length old → at new c ≡ f (at old c)) → new ≡ map f old
map_of_each f [] [] e each = refl
map_of_each f [] (x ∷ xs) e each = absurd (let no : ⊥ = omega (arith, e) in no)
map_of_each f (y ∷ ys) [] e each = absurd (let no : ⊥ = omega (arith, e) in no)
map_of_each f (y ∷ ys) (x ∷ xs) e each =
    ap (λ v. v ∷ ys) (each zero (omega arith))
    ∙ ap (λ l. f x ∷ l) (map_of_each f ys xs (omega (arith, e)) (λ c lt. each (suc c) (omega (arith, lt))))
