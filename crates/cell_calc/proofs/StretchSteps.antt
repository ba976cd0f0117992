-- The value at the start of a stretch is the value at each of its columns.
use Rattle.std.proofs.Common.{◌≡◌, ◌<◌, ◌+◌, ℕ, zero, suc, pos, List, [], ◌∷◌, length, get_or, refl, ap, ◌∙◌, arith}
use Rattle.std.proofs.Common.{false}
use Rattle.std.specs.Prelude.{All, slice_get}
use Rattle.std.proofs.lemmas.Int.{ints}
use Rattle.std.proofs.lemmas.List.Elements.{All-tail}
use Rattle.cell_core.specs.Grid.{CellValue}
use Rattle.cell_calc_language.specs.Applied.{PositionAndGridSize, call_result}
use Rattle.cell_calc.specs.RowValues.{at}
use Rattle.cell_calc_grammar.specs.declared.step.Step.{Step}
use Rattle.cell_calc_grammar.specs.declared.step.Step.TheVariants as step
use Rattle.cell_calc_grammar.specs.Postfix.{operands_after_steps}
use Rattle.cell_calc_grammar.specs.declared.function.Function.{Function}
use Rattle.cell_calc_grammar.specs.declared.function.Function.TheVariants as function
use Rattle.cell_calc.specs.Window.{RowWindowValue, WindowReachesOffset}
use Rattle.cell_calc.specs.WindowsOver.{row_below_window_centre}
use Rattle.cell_calc.specs.parts.InReach.{SomeWindowReachesOffset}
use Rattle.cell_calc.specs.CommonStretches.{centre_row, span_start_cells, AreWindowsOfFirstSpanCells}
use Rattle.cell_calc.specs.parts.Columns.{ColumnHasFirstCellsOfSpan}
use Rattle.cell_calc.specs.parts.InPlace.{is_col_function, StepDependsOnlyOnOwnCells}
use Rattle.cell_calc.specs.parts.Operands.{CanEvaluateStep, step_result_from_windows}
use Rattle.cell_calc.proofs.Ready.{within}
use Rattle.cell_calc.proofs.StretchCells.{same_count}
use Rattle.cell_calc.proofs.Values.{after_same}

-- a shortened window has the cell of the window that it was made from
short_at : (windows short : List RowWindowValue) (ws : List ℕ) (i k c : ℕ) → AreWindowsOfFirstSpanCells ws windows short
    → ColumnHasFirstCellsOfSpan ws windows k c → i < length windows
    → at (row_below_window_centre (pos 0) (slice_get short i)) k
    ≡ at (row_below_window_centre (pos 0) (slice_get windows i)) c
short_at [] short ws i k c is like lt = absurd (let no : ⊥ = omega (arith, lt) in no)
short_at (w ∷ windows) [] ws i k c is like lt =
    absurd (let no : ⊥ = omega (arith, same_count (w ∷ windows) [] ws is) in no)
short_at (w ∷ windows) (s ∷ short) ws zero k c is like lt =
    let first : centre_row s ≡ span_start_cells (centre_row w) ws = cc in
    ap (λ l. at l k) first ∙ like zero w (omega arith)
short_at (w ∷ windows) (s ∷ short) ws (suc i) k c is like lt =
    let rest : AreWindowsOfFirstSpanCells ws windows short = cc in
    short_at windows short ws i k c rest
    (All-tail (λ v. at (span_start_cells (centre_row v) ws) k ≡ at (centre_row v) c) w windows like) (omega (arith, lt))

-- a window reaches its own row
own_row : (w : RowWindowValue) → WindowReachesOffset w (pos 0)
own_row w = record { up = omega (arith, ints); down = omega (arith, ints) }

own_rows : (short : List RowWindowValue) (i : ℕ) → i < length short
    → SomeWindowReachesOffset (pos 0) (slice_get short i)
own_rows [] i lt = absurd (let no : ⊥ = omega (arith, lt) in no)
own_rows (s ∷ short) zero lt = own_row s
own_rows (s ∷ short) (suc i) lt = own_rows short i (omega (arith, lt))

ready_short : (windows short : List RowWindowValue) (s : Step ℕ) → length short ≡ length windows
    → StepDependsOnlyOnOwnCells s
    → CanEvaluateStep windows s → CanEvaluateStep short s
ready_short windows short (step.Number n) same place ready = ready
ready_short windows short (step.Map i down right) same place ready =
    let there : i < length short = omega (arith, same, within windows i down ready) in
    rw place.0 (own_rows short i there)
ready_short windows short _ same place ready = tt

pub ready_all : (windows short : List RowWindowValue) (ws : List ℕ) (steps : List (Step ℕ))
    → AreWindowsOfFirstSpanCells ws windows short
    → All StepDependsOnlyOnOwnCells steps → All (CanEvaluateStep windows) steps
    → All (CanEvaluateStep short) steps
ready_all windows short ws steps is place ready = λ i d lt.
    ready_short windows short (get_or steps i d) (same_count windows short ws is) (place i d lt) (ready i d lt)

-- the position at a column of a row
abbrev pub column_of : (rows cols row col : ℕ) → PositionAndGridSize
column_of rows cols row col = record { rows = rows; cols = cols; row = row; col = col }

-- a step that does not ask for the column gives the same result at two columns with the same cells
call_same : (f : Function) (rows cols row k c : ℕ) (xs : List CellValue) → is_col_function f ≡ false
    → call_result f (column_of rows cols row k) xs ≡ call_result f (column_of rows cols row c) xs
call_same function.Column rows cols row k c xs not = absurd (let no : ⊥ = cc in no)
call_same _ rows cols row k c xs not = refl

step_same : (windows short : List RowWindowValue) (ws : List ℕ) (rows cols row k c : ℕ) (s : Step ℕ)
    → AreWindowsOfFirstSpanCells ws windows short → ColumnHasFirstCellsOfSpan ws windows k c
    → StepDependsOnlyOnOwnCells s → CanEvaluateStep windows s → (xs : List CellValue)
    → step_result_from_windows short (column_of rows cols row k) s xs
    ≡ step_result_from_windows windows (column_of rows cols row c) s xs
step_same windows short ws rows cols row k c (step.Map i down right) is like place ready xs =
    let start : k + 0 ≡ k = omega arith in
    let here : c + 0 ≡ c = omega arith in
    rw (place.0, place.1) (rw (start, here) (short_at windows short ws i k c is like (within windows i down ready)))
step_same windows short ws rows cols row k c (step.Call f n) is like place ready xs =
    call_same f rows cols row k c xs place
step_same windows short ws rows cols row k c _ is like place ready xs = refl

-- the value at the start of a stretch is the value at each of its columns
pub stretch_value : (windows short : List RowWindowValue) (ws : List ℕ) (rows cols row k c : ℕ)
    (steps : List (Step ℕ))
    → AreWindowsOfFirstSpanCells ws windows short
    → ColumnHasFirstCellsOfSpan ws windows k c → All StepDependsOnlyOnOwnCells steps
    → All (CanEvaluateStep windows) steps
    → operands_after_steps (step_result_from_windows short (column_of rows cols row k)) steps []
    ≡ operands_after_steps (step_result_from_windows windows (column_of rows cols row c)) steps []
stretch_value windows short ws rows cols row k c steps is like place ready =
    after_same (step_result_from_windows short (column_of rows cols row k)) (step_result_from_windows windows
    (column_of rows cols row c)) steps
    (λ i d lt. step_same windows short ws rows cols row k c (get_or steps i d) is like (place i d lt) (ready i d lt)) []
