-- The sum of a table's counts, and the effect of a skip rule on them.
use Rattle.std.proofs.Common.{◌≡◌, ℕ, zero, suc, ◌+◌, ◌*◌, ◌<◌, List, [], ◌∷◌, length, get_or, filter, All, Bool, true, false, not, cond, None, Some, refl, ap, sym, ◌∙◌, arith, zero-add}
use Rattle.std.specs.Prelude.{sum_by}
use Rattle.std.specs.List.{list_any}
use Rattle.std.specs.Option.{is_none}
use Rattle.std.specs.Ordering.{eq_by_cmp, is_eq, ordering_reverse}
use Rattle.std.specs.declared.cmp.Ordering.{Ordering}
use Rattle.std.specs.declared.cmp.Ordering.TheVariants.{Less, Equal, Greater}
use Rattle.std.specs.FinMap.Entries.{find, is_sorted, below_all, where_key, is_sorted-where_key, find-where_key}
use Rattle.std.proofs.lemmas.List.Sums.{sum_by-append}
use Rattle.cell_core.specs.Grid.{Grid}
use Rattle.cell_stats_combinations.specs.declared.skip.Skip.{Skip}
use Rattle.cell_stats_combinations.specs.declared.skip.Skip.TheVariants.{Nothing, AnyNull}
use Rattle.cell_stats_combinations.specs.Combinations.{Combination, all_combinations}
use Rattle.cell_stats_combinations.specs.Combinations.{combination_cmp, combination_cmp_total}
use Rattle.cell_stats_counts.specs.Counts.{cell_count_of_combination}
use Rattle.cell_stats.specs.CategoryTables.{CombinationsWithCounts, table_of_cells}
use Rattle.cell_stats_combinations.specs.LeftOut.{kept_cells, combination_is_left_out}
use Rattle.cell_stats_combinations.proofs.OrderLemmas.{combination_cmp-exact, is_equal}
use Rattle.cell_stats.proofs.SortedLemmas.{both_true, is_less}
use Rattle.cell_stats.proofs.TableLemmas.{T_from, from_T, IsTally, IsTally-from, IsFound-from, combination_counts-IsTally, one_table, count_cons, count_kept, found, table_of-IsTable}
use Rattle.cell_stats_combinations.proofs.WalkLemmas.{length_all}
use Rattle.cell_stats.proofs.WidthLemmas.{table-wide}

-- 1 if the pair has the combination, otherwise 0
abbrev mark : Combination → Combination × ℕ → ℕ
mark k pair = cond (eq_by_cmp combination_cmp pair.0 k) 1 0

sum_by-cons : (f : Combination × ℕ → ℕ) (e : Combination × ℕ) (es : CombinationsWithCounts)
    → sum_by f (e ∷ es) ≡ f e + sum_by f es
sum_by-cons f e es = sum_by-append f (e ∷ []) es ∙ ap (λ n. n + sum_by f es) (zero-add _)

is_eq-reverse : (o : Ordering) → is_eq (ordering_reverse o) ≡ is_eq o
is_eq-reverse Less = refl
is_eq-reverse Equal = refl
is_eq-reverse Greater = refl

eq-swap : (a b : Combination) → eq_by_cmp combination_cmp a b ≡ eq_by_cmp combination_cmp b a
eq-swap a b = ap is_eq (combination_cmp_total.antisymm a b) ∙ is_eq-reverse (combination_cmp b a)

-- a combination smaller than all entries has no entry
mark-none : (k : Combination) (es : CombinationsWithCounts) → below_all combination_cmp k es ≡ true
    → sum_by (mark k) es ≡ 0
mark-none k [] b = refl
mark-none k (e ∷ es) b =
    let both = both_true _ _ b in
    let other : eq_by_cmp combination_cmp e.0 k ≡ false = eq-swap e.0 k ∙ ap is_eq (is_less _ both.0) in
    let here : mark k e ≡ 0 = ap (λ t. cond t 1 0) other in
    omega (arith, sum_by-cons (mark k) e es, here, mark-none k es both.1)

-- a combination that is found matches exactly one entry
mark-one : (k : Combination) (es : CombinationsWithCounts) (n : ℕ) → is_sorted combination_cmp es ≡ true → find combination_cmp k es ≡ Some n → sum_by (mark k) es ≡ 1
mark-one k [] n s f = cc
mark-one k (e ∷ es) n s f =
    let both : (below_all combination_cmp e.0 es ≡ true) × (is_sorted combination_cmp es ≡ true) = both_true _ _ s in
    elim (eq_by_cmp combination_cmp k e.0) as (λ t. eq_by_cmp combination_cmp k e.0 ≡ t → cond t (Some e.1) (find combination_cmp k es) ≡ Some n → sum_by (mark k) (e ∷ es) ≡ 1) [
      | true ↦ λ t _.
          let same : k ≡ e.0 = combination_cmp-exact k e.0 (is_equal _ t) in
          let here : mark k e ≡ 1 = ap (λ b. cond b 1 0) (eq-swap e.0 k ∙ t) in
          let others = mark-none k es (ap (λ x. below_all combination_cmp x es) same ∙ both.0) in
          omega (arith, sum_by-cons (mark k) e es, here, others)
      | false ↦ λ t rest.
          let here : mark k e ≡ 0 = ap (λ b. cond b 1 0) (eq-swap e.0 k ∙ t) in
          omega (arith, sum_by-cons (mark k) e es, here, mark-one k es n both.1 rest)
    ] refl f

-- the counts among no cells are 0
counts-none : (es : CombinationsWithCounts) → sum_by (λ e. cell_count_of_combination e.0 []) es ≡ 0
counts-none [] = refl
counts-none (e ∷ es) = omega (arith, sum_by-cons (λ e. cell_count_of_combination e.0 []) e es, counts-none es)

-- one more cell adds 1 to the counts of its own entries
counts-cons : (k : Combination) (cells : List Combination) (es : CombinationsWithCounts) → sum_by (λ e. cell_count_of_combination e.0 (k ∷ cells)) es ≡ sum_by (mark k) es + sum_by (λ e. cell_count_of_combination e.0 cells) es
counts-cons k cells [] = refl
counts-cons k cells (e ∷ es) =
    omega (arith, sum_by-cons (λ e. cell_count_of_combination e.0 (k ∷ cells)) e es, sum_by-cons (mark k) e es, sum_by-cons (λ e. cell_count_of_combination e.0 cells) e es, count_cons e.0 k cells, counts-cons k cells es)

-- if each cell matches exactly one entry, the counts add up to the number of cells
counts-all : (es : CombinationsWithCounts) (cells : List Combination) → All (λ k. sum_by (mark k) es ≡ 1) cells → sum_by (λ e. cell_count_of_combination e.0 cells) es ≡ length cells
counts-all es [] all = counts-none es
counts-all es (k ∷ cells) all =
    let here : sum_by (mark k) es ≡ 1 = all 0 k (omega arith) in
    let others = counts-all es cells (λ i d within. all (suc i) d (omega (arith, within))) in
    omega (arith, counts-cons k cells es, here, others)

-- each cell is counted at least once
counts-self : (cells : List Combination) (i : ℕ) (d : Combination) → i < length cells → 0 < cell_count_of_combination (get_or cells i d) cells
counts-self [] i d within = absurd (omega (arith, within))
counts-self (k ∷ cells) zero d within =
    let here : eq_by_cmp combination_cmp k k ≡ true = ap is_eq (itself k) in
    let one : ◌≡◌ {A = ℕ} (cond (eq_by_cmp combination_cmp k k) 1 0) 1 = ap (λ b. cond b 1 0) here in
    omega (arith, count_cons k k cells, one)
  where
    equal-reverse : (o : Ordering) → o ≡ ordering_reverse o → o ≡ Equal
    equal-reverse Less e = cc
    equal-reverse Equal e = refl
    equal-reverse Greater e = cc

    itself : (k : Combination) → combination_cmp k k ≡ Equal
    itself k = equal-reverse (combination_cmp k k) (combination_cmp_total.antisymm k k)
counts-self (k ∷ cells) (suc i) d within =
    omega (arith, count_cons (get_or cells i d) k cells, counts-self cells i d (omega (arith, within)))

-- functions that agree on all entries have equal sums
sum_by-same : (f h : Combination × ℕ → ℕ) (es : CombinationsWithCounts) → All (λ e. f e ≡ h e) es
    → sum_by f es ≡ sum_by h es
sum_by-same f h [] all = refl
sum_by-same f h (e ∷ es) all =
    let here : f e ≡ h e = all 0 e (omega arith) in
    omega (arith, sum_by-cons f e es, sum_by-cons h e es, here, sum_by-same f h es (λ i d within. all (suc i) d (omega (arith, within))))

found-some : (n : ℕ) → 0 < n → found n ≡ Some n
found-some zero some = absurd (omega (arith, some))
found-some (suc n) some = refl

tally-sum : (cells : List Combination) (es : CombinationsWithCounts) → IsTally cells es
    → sum_by (λ e. e.1) es ≡ length cells
tally-sum cells es tally =
    let table = IsFound-from cells es tally in
    sum_by-same (λ e. e.1) (λ e. cell_count_of_combination e.0 cells) es (λ i d within.
    let e = get_or es i d in
    ((tally.counted e.0 e.1).0 (i, within, get_or-any es i d e within)).1)
    ∙ counts-all es cells (λ i d within.
    let k = get_or cells i d in
    mark-one k es (cell_count_of_combination k cells) table.sorted (table.finds k ∙ found-some (cell_count_of_combination k cells) (counts-self cells i d within)))
  where
    get_or-any : {X : Type 0} (xs : List X) (i : ℕ) (d e : X) → i < length xs → get_or xs i e ≡ get_or xs i d
    get_or-any [] i d e h = absurd (omega (arith, h))
    get_or-any (x ∷ xs) zero d e h = refl
    get_or-any (x ∷ xs) (suc i) d e h = get_or-any xs i d e (omega (arith, h))

kept-nothing : (cells : List Combination) → kept_cells Nothing cells ≡ cells
kept-nothing [] = refl
kept-nothing (k ∷ cells) = ap (λ (l : List Combination). k ∷ l) (kept-nothing cells)

pub counts-add-up : (maps : List Grid) (picks : List ℕ) (rows cols : ℕ) → sum_by (λ pair. pair.1) (table_of_cells Nothing (all_combinations maps picks rows cols)) ≡ rows * cols
counts-add-up maps picks rows cols =
    let cells = all_combinations maps picks rows cols in
    tally-sum (kept_cells Nothing cells) (table_of_cells Nothing cells) (combination_counts-IsTally (kept_cells Nothing cells)) ∙ ap length (kept-nothing cells) ∙ length_all maps picks cols rows

-- ---- the effect of a skip rule

pub table-skips : (skip : Skip) (cells : List Combination) → table_of_cells skip cells ≡ filter (λ pair. not (combination_is_left_out skip pair.0)) (table_of_cells Nothing cells)
table-skips skip cells =
    let all = kept_cells Nothing cells in
    let es = table_of_cells Nothing cells in
    let p = λ (k : Combination). not (combination_is_left_out skip k) in
    let table = IsFound-from all es (combination_counts-IsTally all) in
    one_table (kept_cells skip cells) (table_of_cells skip cells) (where_key combination_cmp p es) (combination_counts-IsTally (kept_cells skip cells))
    (IsTally-from (kept_cells skip cells) (where_key combination_cmp p es) (record {
      sorted = from_T _ (is_sorted-where_key combination_cmp p es (T_from _ table.sorted));
      finds = λ k.
          find-where_key combination_cmp p k (λ x same. ap p (sym (combination_cmp-exact k x same))) es
          ∙ ap (λ o. cond (p k) o None) (table.finds k ∙ ap (λ l. found (cell_count_of_combination k l))
          (kept-nothing cells))
          ∙ left k (combination_is_left_out skip k) ∙ ap found (sym (count_kept skip k cells));
    }))
  where
    left : (k : Combination) (b : Bool) → cond (not b) (found (cell_count_of_combination k cells)) None ≡ found (cond b 0 (cell_count_of_combination k cells))
    left k true = refl
    left k false = refl

-- in a table of one map, skipping any null and skipping all nulls leave the same entries
filter-alike : (es : CombinationsWithCounts) → All (λ e. length e.0 ≡ 1) es → filter (λ pair. not (list_any is_none pair.0)) es ≡ filter (λ pair. not (eq_by_cmp combination_cmp (None ∷ []) pair.0)) es
filter-alike [] all = refl
filter-alike (e ∷ es) all =
    let rest = filter-alike es (λ i d within. all (suc i) d (omega (arith, within))) in
    let same = alike e.0 (all 0 e (omega arith)) in
    ap (λ b. cond (not b) (e ∷ filter (λ pair. not (list_any is_none pair.0)) es) (filter (λ pair. not (list_any is_none pair.0)) es)) same
    ∙ ap (λ (l : CombinationsWithCounts). cond (not (eq_by_cmp combination_cmp (None ∷ []) e.0)) (e ∷ l) l) rest
  where
    alike : (k : Combination) → length k ≡ 1 → list_any is_none k ≡ eq_by_cmp combination_cmp (None ∷ []) k
    alike [] one = absurd (omega (arith, one))
    alike (None ∷ []) one = refl
    alike (Some v ∷ []) one = refl
    alike (x ∷ y ∷ k) one = absurd (omega (arith, one))

pub table-without-null : (maps : List Grid) (place rows cols : ℕ) → table_of_cells AnyNull (all_combinations maps (place ∷ []) rows cols) ≡ filter (λ pair. not (eq_by_cmp combination_cmp (None ∷ []) pair.0)) (table_of_cells Nothing (all_combinations maps (place ∷ []) rows cols))
table-without-null maps place rows cols =
    let cells = all_combinations maps (place ∷ []) rows cols in
    table-skips AnyNull cells ∙ filter-alike (table_of_cells Nothing cells) (table-wide maps (place ∷ []) Nothing rows cols (table_of_cells Nothing cells) (table_of-IsTable Nothing cells))
