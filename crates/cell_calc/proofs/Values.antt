-- The steps of an expression, applied to the rows that windows hold, give the expression's value.
use Rattle.std.proofs.Common.{◌≡◌, ◌<◌, ◌≤◌, ◌-◌, ℕ, ℤ, pos, negsuc, ◌+ℤ◌, ◌-ℤ◌, ◌<ℤ◌, List, [], ◌∷◌, ◌++◌, length, map, get_or, take, drop, refl, sym, ap, ◌∙◌, arith, append-nil, Option, Some, None, Bool, true, false}
use Rattle.std.specs.Prelude.{All, slice_get, slice_index_or, ◌==◌, if◌then◌else◌}
use Rattle.std.proofs.lemmas.Int.{ints}
use Rattle.std.proofs.lemmas.List.Elements.{All-head, All-tail}
use Rattle.cell_core.specs.Grid.{Grid, CellValue}
use Rattle.cell_calc_language.specs.Grammatical.{cell_count_up_or_left, cell_count_down_or_right}
use Rattle.cell_calc_grammar.specs.declared.step.Step.{Step}
use Rattle.cell_calc_grammar.specs.declared.step.Step.TheVariants as step
use Rattle.cell_calc_language.specs.Formula.{Formula, ArgumentFormulas, NoTrees, Then}
use Rattle.cell_calc_language.specs.Reach.{FormulaIsWithinLimits, map_place_limit_at_offset, rows_read_above_at_offset}
use Rattle.cell_calc_language.specs.Reach.{rows_read_below_at_offset, map_place_limit_of_formula}
use Rattle.cell_calc_language.specs.Reach.{rows_read_above_by_formula, rows_read_below_by_formula}
use Rattle.cell_calc_language.specs.Applied.{PositionAndGridSize, operator_value, call_result, negated_cell}
use Rattle.cell_calc_language.specs.Applied.{logical_negation_of_cell}
use Rattle.cell_calc_language.specs.Offsets.{cell_of_optional_map, item_at_integer_or_default, row_of_map_or_empty}
use Rattle.cell_calc_language.specs.Value.{value, argument_values}
use Rattle.cell_calc.specs.Window.{RowWindowValue, WindowHoldsMapRows, WindowReachesOffset, IsWindowOfMap}
use Rattle.cell_calc.specs.Window.{IsWindowAtRowWithReach}
use Rattle.cell_calc.specs.parts.Operands.{CanEvaluateStep, step_result_from_windows}
use Rattle.cell_calc_grammar.specs.Postfix.{postfix, arity_of_step, operands_after_steps}
use Rattle.cell_calc_language.specs.parts.TreeSteps.{StepIsWithinLimits}
use Rattle.cell_calc.specs.WindowsOver.{row_below_window_centre}
use Rattle.cell_calc.specs.parts.InReach.{SomeWindowReachesOffset}
use Rattle.cell_calc_grammar.proofs.PostfixLemmas.{listed, IsMeaning, after_postfix}
use Rattle.cell_calc.proofs.Rings.{held_row}
use Rattle.cell_calc_language.proofs.FormulaSteps.{proper_steps, below_greatest, top-postfix, up-postfix, down-postfix}

-- the result of a step over maps, from the values of its operands
abbrev pub over_maps : List Grid → PositionAndGridSize → Step ℕ → List CellValue → CellValue
over_maps maps s (step.Number n) xs = Some (pos n)
over_maps maps s (step.Map i down right) xs = cell_of_optional_map (slice_get maps i) (pos s.row +ℤ down)
    (pos s.col +ℤ right)
over_maps maps s step.Negated xs = negated_cell (slice_index_or xs 0 None)
over_maps maps s step.Not xs = logical_negation_of_cell (slice_index_or xs 0 None)
over_maps maps s (step.Binary op) xs = operator_value op (slice_index_or xs 0 None) (slice_index_or xs 1 None)
over_maps maps s (step.Call f n) xs = call_result f s xs

values-listed : (maps : List Grid) (s : PositionAndGridSize) (xs : ArgumentFormulas) → map (λ a. value a maps s) (listed xs) ≡ argument_values xs maps s
values-listed maps s NoTrees = refl
values-listed maps s (Then a xs) = ap (λ l. value a maps s ∷ l) (values-listed maps s xs)

-- the steps of an expression give its value
pub value_after : (maps : List Grid) (s : PositionAndGridSize) (f : Formula) → operands_after_steps (over_maps maps s) (postfix f) [] ≡ value f maps s ∷ []
value_after maps s f =
    let is : IsMeaning ℕ CellValue (over_maps maps s) (λ a. value a maps s) =
    record {
      number = λ n. refl;
      leaf = λ i down right. refl;
      negated = λ a. refl;
      inverted = λ a. refl;
      binary = λ op a b. refl;
      call = λ g xs. ap (λ l. call_result g s l) (values-listed maps s xs);
    } in
    ap (λ l. operands_after_steps (over_maps maps s) l []) (sym (append-nil (postfix f))) ∙ after_postfix (over_maps maps s) (λ a. value a maps s) is f [] []

-- a map has no row above its first row
none_above : {A : Type 0} (xs : List (List A)) (z : ℤ) → z <ℤ pos 0 → [] ≡ item_at_integer_or_default [] xs z
none_above xs (pos n) lt = absurd (let no : ⊥ = omega (arith, ints, lt) in no)
none_above xs (negsuc n) lt = refl

-- a row of a window within its reach is the row of the map
row_below_centre_of_window : (w : RowWindowValue) (m : Grid) (down : ℤ) → WindowHoldsMapRows w m → WindowReachesOffset w down → row_below_window_centre down (Some w) ≡ row_of_map_or_empty m (pos w.centre +ℤ down)
row_below_centre_of_window w m down over reaches = by_case ((pos w.centre +ℤ down) -ℤ pos (w.centre - w.above)) refl
  where
    by_case : (z : ℤ) → (pos w.centre +ℤ down) -ℤ pos (w.centre - w.above) ≡ z → item_at_integer_or_default [] w.held z ≡ row_of_map_or_empty m (pos w.centre +ℤ down)
    by_case (pos i) e = held_row w m down i (get_or w.held i []) over reaches (omega (arith, ints, e)) refl
    by_case (negsuc n) e = none_above m.rows (pos w.centre +ℤ down) (omega (arith, ints, e, reaches.up))

-- a window that has the rows for a step reaches the step's offset
reaches_offset : (down : ℤ) (row : ℕ) (w : RowWindowValue) → IsWindowAtRowWithReach row (cell_count_up_or_left down)
    (cell_count_down_or_right down) (Some w) → WindowReachesOffset w down
reaches_offset (pos n) row w h = record { up = omega (arith, ints); down = omega (arith, ints, h.1.1) }
reaches_offset (negsuc n) row w h = record { up = omega (arith, ints, h.1.0); down = omega (arith, ints) }

weaken : (row u v d e : ℕ) (o : Option RowWindowValue) → u ≤ v → d ≤ e → IsWindowAtRowWithReach row v e o
    → IsWindowAtRowWithReach row u d o
weaken row u v d e None lu ld h = h
weaken row u v d e (Some w) lu ld h = (h.0, (omega (arith, h.1.0), omega (arith, h.1.1)))

at_place : (i n : ℕ) → (if i == i then n else 0) ≡ n
at_place i n = by_case (i == i) refl
  where
    by_case : (b : Bool) → (i == i) ≡ b → (if b then n else 0) ≡ n
    by_case true e = refl
    by_case false e = grind arith

-- the window that a step of an expression reads has the rows for the step
has_reach : (f : Formula) (row : ℕ) (windows : List RowWindowValue) → ((i : ℕ) → i < map_place_limit_of_formula f → IsWindowAtRowWithReach row (rows_read_above_by_formula i f) (rows_read_below_by_formula i f) (slice_get windows i))
    → (k : ℕ) (d : Step ℕ) → k < length (postfix f) → (i : ℕ) (down right : ℤ) → get_or (postfix f) k d ≡ step.Map i down right
    → (i < map_place_limit_of_formula f) × IsWindowAtRowWithReach row (cell_count_up_or_left down)
    (cell_count_down_or_right down)
    (slice_get windows i)
has_reach f row windows h k d lt i down right is =
    let top : i < map_place_limit_of_formula f = omega (
      arith,
      rw is at (below_greatest map_place_limit_at_offset
          (postfix f) k d lt),
      top-postfix f,
    ) in
    let up : cell_count_up_or_left down ≤ rows_read_above_by_formula i f = omega (arith, rw (is, at_place i (cell_count_up_or_left down)) at (below_greatest (rows_read_above_at_offset i) (postfix f) k d lt), up-postfix i f) in
    let below : cell_count_down_or_right down ≤ rows_read_below_by_formula i f = omega (arith, rw (is, at_place i (cell_count_down_or_right down)) at (below_greatest (rows_read_below_at_offset i) (postfix f) k d lt), down-postfix i f) in (
      top,
      weaken row (cell_count_up_or_left down) (rows_read_above_by_formula i f) (cell_count_down_or_right down)
          (rows_read_below_by_formula i f) (slice_get windows i) up below (h i top),
    )

-- the windows are ready for each step of an expression
in_reach : (down : ℤ) (row : ℕ) (o : Option RowWindowValue) → IsWindowAtRowWithReach row (cell_count_up_or_left down)
    (cell_count_down_or_right down) o → SomeWindowReachesOffset down o
in_reach down row None h = h
in_reach down row (Some w) h = reaches_offset down row w h

ready_step : (windows : List RowWindowValue) (row : ℕ) (s : Step ℕ) → StepIsWithinLimits s
    → ((i : ℕ) (down right : ℤ) → s ≡ step.Map i down right → IsWindowAtRowWithReach row (cell_count_up_or_left down) (cell_count_down_or_right down) (slice_get windows i)) → CanEvaluateStep windows s
ready_step windows row (step.Number n) p reach = p
ready_step windows row (step.Map i down right) p reach = in_reach down row (slice_get windows i) (reach i down right refl)
ready_step windows row _ p reach = tt

pub ready_steps : (f : Formula) (row : ℕ) (windows : List RowWindowValue) → FormulaIsWithinLimits f
    → ((i : ℕ) → i < map_place_limit_of_formula f → IsWindowAtRowWithReach row (rows_read_above_by_formula i f) (rows_read_below_by_formula i f) (slice_get windows i)) → All (CanEvaluateStep windows) (postfix f)
ready_steps f row windows proper h = λ k d lt.
    ready_step windows row (get_or (postfix f) k d) (proper_steps f proper k d lt) (λ i down right is. (has_reach f row windows h k d lt i down right is).1)

-- a cell of a row that a window holds is the cell of the map
over_window : (row c : ℕ) (down right : ℤ) (o : Option RowWindowValue) (m : Option Grid) → IsWindowOfMap o m → IsWindowAtRowWithReach row (cell_count_up_or_left down) (cell_count_down_or_right down) o
    → item_at_integer_or_default None (row_below_window_centre down o) (pos c +ℤ right)
    ≡ cell_of_optional_map m (pos row +ℤ down) (pos c +ℤ right)
over_window row c down right (Some w) (Some m) over h =
    ap (λ l. item_at_integer_or_default None l (pos c +ℤ right)) (row_below_centre_of_window w m down over (reaches_offset down row w h) ∙ ap (λ r. row_of_map_or_empty m (pos r +ℤ down)) h.0)
over_window row c down right _ _ over h = absurd over

same_step : (windows : List RowWindowValue) (maps : List Grid) (s : PositionAndGridSize) (t : Step ℕ)
    → ((i : ℕ) (down right : ℤ) → t ≡ step.Map i down right → IsWindowOfMap (slice_get windows i) (slice_get maps i) × IsWindowAtRowWithReach s.row (cell_count_up_or_left down) (cell_count_down_or_right down) (slice_get windows i))
    → (xs : List CellValue) → step_result_from_windows windows s t xs ≡ over_maps maps s t xs
same_step windows maps s (step.Map i down right) reach xs =
    let there = reach i down right refl in
    over_window s.row s.col down right (slice_get windows i) (slice_get maps i) there.0 there.1
same_step windows maps s _ reach xs = refl

-- two ways to apply steps that agree on every step agree on all of them
pub after_same : {X : Type 0} (g h : Step ℕ → List X → X) (steps : List (Step ℕ)) → All (λ s. (xs : List X) → g s xs ≡ h s xs) steps
    → (xs : List X) → operands_after_steps g steps xs ≡ operands_after_steps h steps xs
after_same g h [] all xs = refl
after_same {X} g h (s ∷ steps) all xs =
    let n = length xs - arity_of_step s in
    after_same g h steps (All-tail (λ s. (xs : List X) → g s xs ≡ h s xs) s steps all) (take n xs ++ g s (drop n xs) ∷ [])
    ∙ ap (λ v. operands_after_steps h steps (take n xs ++ v ∷ [])) (All-head (λ s. (xs : List X) → g s xs ≡ h s xs) s steps all (drop n xs))

-- the value of an expression over windows is its value over their maps
pub header_value_from_call_result : (f : Formula) (windows : List RowWindowValue) (maps : List Grid)
    (s : PositionAndGridSize)
    → ((i : ℕ) → i < map_place_limit_of_formula f → IsWindowAtRowWithReach s.row (rows_read_above_by_formula i f)
    (rows_read_below_by_formula i f) (slice_get windows i))
    → ((i : ℕ) → i < map_place_limit_of_formula f → IsWindowOfMap (slice_get windows i) (slice_get maps i)) → operands_after_steps (step_result_from_windows windows s) (postfix f) [] ≡ value f maps s ∷ []
header_value_from_call_result f windows maps s h over =
    after_same (step_result_from_windows windows s) (over_maps maps s) (postfix f)
    (λ k d lt xs. same_step windows maps s (get_or (postfix f) k d)
    (λ i down right is. let there = has_reach f s.row windows h k d lt i down right is in (over i there.0, there.1)) xs) []
    ∙ value_after maps s f

-- two lists of one value are equal only if the values are
pub only_value : (v w : CellValue) → v ∷ [] ≡ w ∷ [] → v ≡ w
only_value v w e = cc
