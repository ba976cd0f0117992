-- Tables of the results of a function for each cell, and the counts of entries that pass a test.
use Rattle.std.proofs.Common.{◌≡◌, ℕ, zero, suc, ◌+◌, ◌<◌, List, [], ◌∷◌, filter, length, get_or, All, Some}
use Rattle.std.proofs.Common.{Bool, true, false, cond, refl, ap, sym, subst, ◌∙◌, arith, zero-add}
use Rattle.std.specs.Prelude.{sum_by, count_by}
use Rattle.std.specs.Ordering.{eq_by_cmp, is_eq, ordering_reverse}
use Rattle.std.specs.declared.cmp.Ordering.{Ordering}
use Rattle.std.specs.declared.cmp.Ordering.TheVariants.{Less}
use Rattle.std.specs.Cmp.{tied_itself}
use Rattle.std.specs.FinMap.Entries.{find, is_sorted, below_all}
use Rattle.cell_stats_combinations.specs.declared.skip.Skip.TheVariants.{Nothing}
use Rattle.cell_stats_combinations.specs.Combinations.{Combination, combination_cmp, combination_cmp_total}
use Rattle.cell_stats_combinations.specs.LeftOut.{kept_cells}
use Rattle.cell_stats_combinations.proofs.OrderLemmas.{combination_cmp-exact, is_equal}
use Rattle.cell_stats_counts.specs.Counts.{cell_count_of_combination}
use Rattle.cell_stats.specs.CategoryTables.{CombinationsWithCounts, table_of_cells}
use Rattle.cell_stats.proofs.SortedLemmas.{both_true, is_less}
use Rattle.cell_join_numbers.proofs.SumLemmas.{sum-cons}
use Rattle.cell_stats.proofs.TableLemmas.{IsTally, IsFound-from, combination_counts-IsTally, count_cons, found}

pub kept-nothing : (cells : List Combination) → kept_cells Nothing cells ≡ cells
kept-nothing [] = refl
kept-nothing (k ∷ cells) = ap (λ (l : List Combination). k ∷ l) (kept-nothing cells)

pub whole-tally : (cells : List Combination) → IsTally cells (table_of_cells Nothing cells)
whole-tally cells =
    let kept_cells = combination_counts-IsTally (kept_cells Nothing cells) in
    subst (λ (l : List Combination). IsTally l (table_of_cells Nothing cells)) (kept-nothing cells) kept_cells

-- ---- each cell is counted in exactly one entry

-- 1 if the entry has the combination, and otherwise 0
abbrev mark : Combination → Combination × ℕ → ℕ
mark k e = cond (eq_by_cmp combination_cmp e.0 k) 1 0

eq-swap : (a b : Combination) → eq_by_cmp combination_cmp a b ≡ eq_by_cmp combination_cmp b a
eq-swap a b = ap is_eq (combination_cmp_total.antisymm a b) ∙ reversed (combination_cmp b a)
  where
    reversed : (o : Ordering) → is_eq (ordering_reverse o) ≡ is_eq o
    reversed Less = refl
    reversed _ = refl

mark-none : (k : Combination) (es : CombinationsWithCounts) → below_all combination_cmp k es ≡ true
    → sum_by (mark k) es ≡ 0
mark-none k [] below = refl
mark-none k (e ∷ es) below =
    let both = both_true _ _ below in
    let first : mark k e ≡ 0 = ap (λ t. cond t 1 0) (eq-swap e.0 k ∙ ap is_eq (is_less _ both.0)) in
    omega (arith, sum-cons (mark k) e es, first, mark-none k es both.1)

-- if a combination is found among the entries with the count n, exactly one entry has it
abbrev IsOneIf : Combination → Combination × ℕ → CombinationsWithCounts → ℕ → Bool → Type 0
IsOneIf k e es n t =
    eq_by_cmp combination_cmp k e.0 ≡ t → cond t (Some e.1) (find combination_cmp k es) ≡ Some n
    → sum_by (mark k) (e ∷ es) ≡ 1

mark-one : (k : Combination) (es : CombinationsWithCounts) (n : ℕ) → is_sorted combination_cmp es ≡ true
    → find combination_cmp k es ≡ Some n → sum_by (mark k) es ≡ 1
mark-one k [] n sorted is = cc
mark-one k (e ∷ es) n sorted is =
    let both : (below_all combination_cmp e.0 es ≡ true) × (is_sorted combination_cmp es ≡ true) =
    both_true _ _ sorted in
    elim (eq_by_cmp combination_cmp k e.0) as (λ t. IsOneIf k e es n t) [
      | true ↦ λ t _.
          let same : k ≡ e.0 = combination_cmp-exact k e.0 (is_equal _ t) in
          let first : mark k e ≡ 1 = ap (λ b. cond b 1 0) (eq-swap e.0 k ∙ t) in
          let others = mark-none k es (ap (λ x. below_all combination_cmp x es) same ∙ both.0) in
          omega (arith, sum-cons (mark k) e es, first, others)
      | false ↦ λ t rest.
          let first : mark k e ≡ 0 = ap (λ b. cond b 1 0) (eq-swap e.0 k ∙ t) in
          omega (arith, sum-cons (mark k) e es, first, mark-one k es n both.1 rest)
    ] refl is

-- each cell is counted at least once
counts-itself : (cells : List Combination) (i : ℕ) (d : Combination) → i < length cells
    → 0 < cell_count_of_combination (get_or cells i d) cells
counts-itself [] i d within = absurd (omega (arith, within))
counts-itself (k ∷ cells) zero d within =
    let one : ◌≡◌ {A = ℕ} (cond (eq_by_cmp combination_cmp k k) 1 0) 1 =
    ap (λ o. cond (is_eq o) 1 0) (tied_itself combination_cmp_total k) in
    omega (arith, count_cons k k cells, one)
counts-itself (k ∷ cells) (suc i) d within =
    omega (arith, count_cons (get_or cells i d) k cells, counts-itself cells i d (omega (arith, within)))

found-some : (n : ℕ) → 0 < n → found n ≡ Some n
found-some zero some = absurd (omega (arith, some))
found-some (suc n) some = refl

-- ---- the entries that pass a test

module _ (h : Combination → Bool) where
  -- the count of an entry that passes the test, and otherwise 0
  abbrev counted : (Combination × ℕ → ℕ) → Combination × ℕ → ℕ
  counted f e = cond (h e.0) (f e) 0

  nothing : (b : Bool) → ◌≡◌ {A = ℕ} (cond b 0 0) 0
  nothing true = refl
  nothing false = refl

  same-mark : (k a : Combination) (b : Bool) → eq_by_cmp combination_cmp a k ≡ b
      → ◌≡◌ {A = ℕ} (cond (h a) (cond b 1 0) 0) (cond (h k) (cond b 1 0) 0)
  same-mark k a true e = ap (λ (x : Combination). cond (h x) 1 0) (combination_cmp-exact a k (is_equal _ e))
  same-mark k a false e = nothing (h a) ∙ sym (nothing (h k))

  cond-add : (b : Bool) (m n : ℕ) → cond b (m + n) 0 ≡ cond b m 0 + cond b n 0
  cond-add true m n = refl
  cond-add false m n = refl

  sum-marks : (k : Combination) (es : CombinationsWithCounts)
      → sum_by (counted (mark k)) es ≡ cond (h k) (sum_by (mark k) es) 0
  sum-marks k [] = sym (nothing (h k))
  sum-marks k (e ∷ es) =
      let first = same-mark k e.0 (eq_by_cmp combination_cmp e.0 k) refl in
      let whole : cond (h k) (sum_by (mark k) (e ∷ es)) 0 ≡ cond (h k) (mark k e + sum_by (mark k) es) 0 =
      ap (λ n. cond (h k) n 0) (sum-cons (mark k) e es) in
      let split = cond-add (h k) (mark k e) (sum_by (mark k) es) in
      omega (arith, sum-cons (counted (mark k)) e es, first, sum-marks k es, whole, split)

  sum-more : (k : Combination) (cells : List Combination) (es : CombinationsWithCounts)
      → sum_by (counted (λ e. cell_count_of_combination e.0 (k ∷ cells))) es
      ≡ sum_by (counted (mark k)) es + sum_by (counted (λ e. cell_count_of_combination e.0 cells)) es
  sum-more k cells [] = refl
  sum-more k cells (e ∷ es) =
      let first : cond (h e.0) (cell_count_of_combination e.0 (k ∷ cells)) 0
      ≡ cond (h e.0) (mark k e) 0 + cond (h e.0) (cell_count_of_combination e.0 cells) 0 =
      ap (λ n. cond (h e.0) n 0) (count_cons e.0 k cells) ∙ cond-add (h e.0) (mark k e)
      (cell_count_of_combination e.0 cells) in
      omega (
        arith,
        sum-cons (counted (λ e. cell_count_of_combination e.0 (k ∷ cells))) e es,
        sum-cons (counted (mark k)) e es,
        sum-cons (counted (λ e. cell_count_of_combination e.0 cells)) e es,
        first,
        sum-more k cells es,
      )

  sum-none : (es : CombinationsWithCounts) → sum_by (counted (λ e. cell_count_of_combination e.0 [])) es ≡ 0
  sum-none [] = refl
  sum-none (e ∷ es) =
      let first : cond (h e.0) (cell_count_of_combination e.0 []) 0 ≡ 0 = nothing (h e.0) in
      omega (arith, sum-cons (counted (λ e. cell_count_of_combination e.0 [])) e es, first, sum-none es)

  sum-cells : (es : CombinationsWithCounts) (cells : List Combination) → All (λ k. sum_by (mark k) es ≡ 1) cells
      → sum_by (counted (λ e. cell_count_of_combination e.0 cells)) es ≡ count_by h cells
  sum-cells es [] all = sum-none es
  sum-cells es (k ∷ cells) all =
      let first : sum_by (counted (mark k)) es ≡ cond (h k) 1 0 =
      sum-marks k es ∙ ap (λ n. cond (h k) n 0) (all 0 k (omega arith)) in
      let cons : count_by h (k ∷ cells) ≡ cond (h k) 1 0 + count_by h cells =
      sum-cons (λ (x : Combination). cond (h x) 1 0) k cells in
      let others = sum-cells es cells (λ i d within. all (suc i) d (omega (arith, within))) in
      omega (arith, sum-more k cells es, first, cons, others)

  sum-filter : (es : CombinationsWithCounts) → sum_by (λ e. e.1) (filter (λ e. h e.0) es)
      ≡ sum_by (counted (λ e. e.1)) es
  sum-filter [] = refl
  sum-filter (e ∷ es) =
      by (h e.0) ∙ ap (λ n. cond (h e.0) e.1 0 + n) (sum-filter es) ∙ sym (sum-cons (counted (λ e. e.1)) e es)
    where
      rest : CombinationsWithCounts
      rest = filter (λ e. h e.0) es

      by : (b : Bool)
          → sum_by (λ (x : Combination × ℕ). x.1) (cond b (e ∷ filter (λ e. h e.0) es) (filter (λ e. h e.0) es))
          ≡ cond b e.1 0 + sum_by (λ (x : Combination × ℕ). x.1) (filter (λ e. h e.0) es)
      by true = sum-cons (λ (x : Combination × ℕ). x.1) e (filter (λ e. h e.0) es)
      by false = sym (zero-add _)

  sum-alike : (f g : Combination × ℕ → ℕ) (es : CombinationsWithCounts) → All (λ e. f e ≡ g e) es
      → sum_by f es ≡ sum_by g es
  sum-alike f g [] all = refl
  sum-alike f g (e ∷ es) all =
      let first : f e ≡ g e = all 0 e (omega arith) in
      let others = sum-alike f g es (λ i d within. all (suc i) d (omega (arith, within))) in
      omega (arith, sum-cons f e es, sum-cons g e es, first, others)

  -- the counts of the entries that pass a test add up to the number of cells that pass it
  pub table-counts : (cells : List Combination)
      → sum_by (λ e. e.1) (filter (λ e. h e.0) (table_of_cells Nothing cells)) ≡ count_by h cells
  table-counts cells =
      let es = table_of_cells Nothing cells in
      let tally = whole-tally cells in
      let is_found = IsFound-from cells es tally in
      sum-filter es
      ∙ sum-alike (counted (λ e. e.1)) (counted (λ e. cell_count_of_combination e.0 cells)) es (λ i d within.
      let e = get_or es i d in
      ap (λ n. cond (h e.0) n 0) ((tally.counted e.0 e.1).0 (i, within, get_or-any es i d e within)).1)
      ∙ sum-cells es cells (λ i d within.
      let k = get_or cells i d in
      let some = found-some (cell_count_of_combination k cells) (counts-itself cells i d within) in
      mark-one k es (cell_count_of_combination k cells) is_found.sorted (is_found.finds k ∙ some))
    where
      get_or-any : {X : Type 0} (xs : List X) (i : ℕ) (d e : X) → i < length xs → get_or xs i e ≡ get_or xs i d
      get_or-any [] i d e within = absurd (omega (arith, within))
      get_or-any (x ∷ xs) zero d e within = refl
      get_or-any (x ∷ xs) (suc i) d e within = get_or-any xs i d e (omega (arith, within))
