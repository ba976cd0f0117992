-- The number of first cells in each row of a tile determines the row of each first cell.
use Rattle.std.proofs.Common.{◌≡◌, ℕ, zero, suc, ◌+◌, ◌<◌, ◌≤◌, List, [], ◌∷◌, length, get_or, refl, ap, ◌∙◌, arith, inl, inr, ⊎_elim, ◌⊎◌, ltb, eqb, cond, Bool}
use Rattle.std.specs.Prelude.{sum, count_by, ◌==◌}
use Rattle.std.specs.List.{AllPairs}
use Rattle.std.proofs.lemmas.Bool.{cases_lt, cases_order, lt-ltb, le-ltb, eq-eqb, ne_eqb}
use Rattle.std.proofs.lemmas.List.Sums.{sum_by-cons}
use Rattle.cell_clumps.specs.Clumps.{Position, IsEarlierCell}
use Rattle.cell_join_tiles.specs.Beginnings.{BegunClumpCountsByRow, begun_clump_count_before_row}
use Rattle.cell_join_tiles.proofs.StretchLemmas.{Lies}
use Rattle.cell_join_tiles.proofs.LabelSums.{begun-next, all-of}

-- the number of first cells above a row, and the number in it
abbrev pub above : List Position → ℕ → ℕ
above firsts i = count_by (λ p. ltb p.row i) firsts

abbrev pub among : List Position → ℕ → ℕ
among firsts i = count_by (λ p. p.row == i) firsts

abbrev once : Bool → ℕ
once b = cond b 1 0

above-cons : (p : Position) (firsts : List Position) (i : ℕ) → above (p ∷ firsts) i ≡ once (ltb p.row i) + above firsts i
above-cons p firsts i = sum_by-cons (λ (q : Position). cond (ltb q.row i) 1 0) p firsts

above-in : (p : Position) (firsts : List Position) (i : ℕ) → p.row < i → above (p ∷ firsts) i ≡ 1 + above firsts i
above-in p firsts i lt = above-cons p firsts i ∙ ap (λ (b : Bool). once b + above firsts i) (lt-ltb p.row i lt)

above-out : (p : Position) (firsts : List Position) (i : ℕ) → i ≤ p.row → above (p ∷ firsts) i ≡ above firsts i
above-out p firsts i le = above-cons p firsts i ∙ ap (λ (b : Bool). once b + above firsts i) (le-ltb p.row i le) ∙ zero-plus (above firsts i)
  where
    zero-plus : (n : ℕ) → 0 + n ≡ n
    zero-plus n = omega arith

among-cons : (p : Position) (firsts : List Position) (i : ℕ) → among (p ∷ firsts) i ≡ once (eqb p.row i) + among firsts i
among-cons p firsts i = sum_by-cons (λ (q : Position). cond (q.row == i) 1 0) p firsts

above-none : (firsts : List Position) → above firsts 0 ≡ 0
above-none [] = refl
above-none (p ∷ firsts) = above-out p firsts 0 (omega arith) ∙ above-none firsts

pub above-next : (firsts : List Position) (i : ℕ) → above firsts (suc i) ≡ above firsts i + among firsts i
above-next [] i = omega arith
above-next (p ∷ firsts) i = by (above-next firsts i) (cases_order p.row i)
  where
    by : above firsts (suc i) ≡ above firsts i + among firsts i → (p.row ≡ i) ⊎ ((p.row < i) ⊎ (i < p.row)) → above (p ∷ firsts) (suc i) ≡ above (p ∷ firsts) i + among (p ∷ firsts) i
    by rest (inl same) =
        let own : once (eqb p.row i) ≡ 1 = ap once (eq-eqb p.row i same) in
        omega (arith, rest, among-cons p firsts i, own, above-in p firsts (suc i) (omega (arith, same)), above-out p firsts i (omega (arith, same)))
    by rest (inr (inl less)) =
        let own : once (eqb p.row i) ≡ 0 = ap once (ne_eqb p.row i (λ e. omega (arith, e, less))) in
        omega (arith, rest, among-cons p firsts i, own, above-in p firsts (suc i) (omega (arith, less)), above-in p firsts i less)
    by rest (inr (inr more)) =
        let own : once (eqb p.row i) ≡ 0 = ap once (ne_eqb p.row i (λ e. omega (arith, e, more))) in
        omega (arith, rest, among-cons p firsts i, own, above-out p firsts (suc i) (omega (arith, more)), above-out p firsts i (omega (arith, more)))

-- the counts of first cells per row add up to the number of first cells above a row
pub counted-above : (firsts : List Position) (begun : BegunClumpCountsByRow) (rows : ℕ) → ((i : ℕ) → i < rows → get_or begun i 0 ≡ among firsts i) → (i : ℕ) → i ≤ rows → begun_clump_count_before_row begun i ≡ above firsts i
counted-above firsts begun rows counts zero le = omega (arith, above-none firsts)
counted-above firsts begun rows counts (suc i) le =
    omega (arith, begun-next begun i, above-next firsts i, counts i (omega (arith, le)), counted-above firsts begun rows counts i (omega (arith, le)))

-- ---- first cells in row order

all-past : (firsts : List Position) (i : ℕ) → ((k : ℕ) (d : Position) → k < length firsts → i ≤ (get_or firsts k d).row) → above firsts i ≡ 0
all-past [] i past = refl
all-past (p ∷ firsts) i past = above-out p firsts i (past 0 p (omega arith)) ∙ all-past firsts i (λ k d lt. past (suc k) d (omega (arith, lt)))

-- the k-th first cell is above a row exactly if more than k first cells are above that row
pub record Parts (firsts : List Position) (k i : ℕ) (p : Position) : Type 0 where
  pub above_it : p.row < i → k < above firsts i
  pub not_above : i ≤ p.row → above firsts i ≤ k

pub parts : (firsts : List Position) → AllPairs IsEarlierCell firsts → (k i : ℕ) (d : Position) → k < length firsts → Parts firsts k i (get_or firsts k d)
parts [] order k i d lt = absurd (omega (arith, lt))
parts (p ∷ firsts) order zero i d lt = record {
  above_it = λ less. omega (arith, above-in p firsts i less);
  not_above = λ past. omega (arith, above-out p firsts i past, all-past firsts i (λ k e inside. row_le p (get_or firsts k e) past (order 0 (suc k) e (omega arith) (omega (arith, inside)))));
}
  where
    row_le : (a b : Position) → i ≤ a.row → IsEarlierCell a b → i ≤ b.row
    row_le a b past (inl h) = omega (arith, past, h)
    row_le a b past (inr h) = omega (arith, past, h.0)
parts (p ∷ firsts) order (suc k) i d lt =
    let rest = parts firsts (λ a b e less inside. order (suc a) (suc b) e (omega (arith, less)) (omega (arith, inside))) k i d (omega (arith, lt)) in
    record {
      above_it = λ less. omega (arith, above-in p firsts i (row_lt p (get_or firsts k d) less (order 0 (suc k) d (omega arith) lt)), rest.above_it less);
      not_above = λ past. ⊎_elim (λ high. omega (arith, above-in p firsts i high, rest.not_above past)) (λ low. omega (arith, above-out p firsts i low, rest.not_above past)) (cases_lt p.row i);
    }
  where
    row_lt : (a b : Position) → b.row < i → IsEarlierCell a b → a.row < i
    row_lt a b less (inl h) = omega (arith, less, h)
    row_lt a b less (inr h) = omega (arith, less, h.0)

-- ---- the row of a clump

-- the row in which a clump begins is the row of its first cell
pub begun-at : (firsts : List Position) → AllPairs IsEarlierCell firsts → (begun : BegunClumpCountsByRow) (rows : ℕ) → length begun ≡ rows → ((i : ℕ) → i < rows → get_or begun i 0 ≡ among firsts i) → (k : ℕ) (d : Position) → k < length firsts → (get_or firsts k d).row < rows → Lies begun k (get_or firsts k d).row
begun-at firsts order begun rows long counts k d lt inside =
    let p : Position = get_or firsts k d in
    let own = parts firsts order k p.row d lt in
    let next = parts firsts order k (suc p.row) d lt in
    record {
      inside = omega (arith, inside, long);
      low = omega (arith, own.not_above (omega arith), counted-above firsts begun rows counts p.row (omega (arith, inside)));
      high = omega (arith, next.above_it (omega arith), counted-above firsts begun rows counts (suc p.row) (omega (arith, inside)), begun-next begun p.row);
    }

-- a tile has as many clumps as begin in its rows
all-above : (firsts : List Position) (i : ℕ) → ((k : ℕ) (d : Position) → k < length firsts → (get_or firsts k d).row < i) → above firsts i ≡ length firsts
all-above [] i within = refl
all-above (p ∷ firsts) i within =
    omega (arith, above-in p firsts i (within 0 p (omega arith)), all-above firsts i (λ k d lt. within (suc k) d (omega (arith, lt))))

pub sum-begun : (firsts : List Position) (begun : BegunClumpCountsByRow) (rows : ℕ) → length begun ≡ rows → ((i : ℕ) → i < rows → get_or begun i 0 ≡ among firsts i) → ((k : ℕ) (d : Position) → k < length firsts → (get_or firsts k d).row < rows) → sum begun ≡ length firsts
sum-begun firsts begun rows long counts within =
    omega (
      arith,
      all-of (λ (n : ℕ). n) begun rows (omega (arith, long)),
      counted-above firsts begun rows counts rows (omega arith),
      all-above firsts rows within,
    )
