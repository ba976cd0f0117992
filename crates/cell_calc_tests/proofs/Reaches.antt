-- Windows that reach as far as an expression reads, with one more window.
use Rattle.std.proofs.Common.{◌≡◌, ◌<◌, ◌+◌, ℕ, zero, suc, List, [], ◌∷◌, ◌++◌, length, refl, arith, Some, below_more}
use Rattle.std.specs.Prelude.{slice_get}
use Rattle.cell_calc_language.specs.Formula.{Formula}
use Rattle.cell_calc_language.specs.Reach.{rows_read_above_by_formula, rows_read_below_by_formula}
use Rattle.cell_calc.specs.Window.{RowWindowValue, IsWindowAtRowWithReach}

-- an item before the appended items keeps its index
before : {A : Type 0} (xs ys : List A) (i : ℕ) → i < length xs → slice_get (xs ++ ys) i ≡ slice_get xs i
before [] ys i lt = absurd (let no : ⊥ = omega arith in no)
before (x ∷ xs) ys zero lt = refl
before (x ∷ xs) ys (suc i) lt = before xs ys i (omega arith)

behind : {A : Type 0} (xs : List A) (x : A) (i : ℕ) → length xs ≡ i → slice_get (xs ++ x ∷ []) i ≡ Some x
behind [] x zero e = refl
behind [] x (suc i) e = absurd (let no : ⊥ = omega arith in no)
behind (y ∷ xs) x zero e = absurd (let no : ⊥ = omega arith in no)
behind (y ∷ xs) x (suc i) e = behind xs x i (omega arith)

pub reach_more : (f : Formula) (row : ℕ) (windows : List RowWindowValue) (n : ℕ) (w : RowWindowValue)
    → length windows ≡ n
    → ((i : ℕ) → i < n → IsWindowAtRowWithReach row (rows_read_above_by_formula i f) (rows_read_below_by_formula i f) (slice_get windows i)) → IsWindowAtRowWithReach row (rows_read_above_by_formula n f) (rows_read_below_by_formula n f) (Some w)
    → (i : ℕ) → i < n + 1 → IsWindowAtRowWithReach row (rows_read_above_by_formula i f) (rows_read_below_by_formula i f)
    (slice_get (windows ++ w ∷ []) i)
reach_more f row windows n w count held new =
    below_more (λ i. IsWindowAtRowWithReach row (rows_read_above_by_formula i f) (rows_read_below_by_formula i f)
    (slice_get (windows ++ w ∷ []) i)) n
    (λ i lt. let short : i < length windows = omega arith in rw (before windows (w ∷ []) i short) (held i lt))
    (rw (behind windows w n count) new)
