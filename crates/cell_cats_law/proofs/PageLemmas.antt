-- The pages of a table in order.
use Rattle.std.proofs.Common.{◌≡◌, ℕ, zero, [], ◌∷◌, ◌++◌, Bool, true, false, IsTrue, refl, ap, sym, ◌∙◌, arith}
use Rattle.std.specs.declared.cmp.Ordering.{Ordering}
use Rattle.std.specs.declared.cmp.Ordering.TheVariants.{Less, Equal, Greater}
use Rattle.std.specs.FinMap.Entries.{is_sorted, below_all}
use Rattle.std.specs.Cmp.{tied_itself}
use Rattle.std.specs.Ordering.{is_lt, is_le, ordering_reverse}
use Rattle.cell_stats_combinations.specs.Combinations.{Combination, combination_cmp, combination_cmp_total}
use Rattle.cell_stats.specs.CategoryTables.{CombinationsWithCounts, entries_after_combination}
use Rattle.cell_stats.proofs.SortedLemmas.{both_true, is_less}
use Rattle.cell_stats.proofs.RestLemmas.{rest-behind}
use Rattle.cell_stats.proofs.TableLemmas.{ascending_to}
use Rattle.cell_cats_law.specs.PageLaw.{entries_up_to_combination, TableSplitsAtCombination, RestOfTableIsLaterEntries}

-- an entry that comes after the combination is in the rest
rest-in : (k : Combination) (e : Combination × ℕ) (es : CombinationsWithCounts) → combination_cmp k e.0 ≡ Less →
    entries_after_combination k (e ∷ es) ≡ e ∷ entries_after_combination k es
rest-in k e es l = rw l refl

rest-out : (k : Combination) (e : Combination × ℕ) (es : CombinationsWithCounts)
    → is_lt (combination_cmp k e.0) ≡ false →
    entries_after_combination k (e ∷ es) ≡ entries_after_combination k es
rest-out k e es l = rw l refl

up_to-in : (k : Combination) (e : Combination × ℕ) (es : CombinationsWithCounts)
    → is_le (combination_cmp e.0 k) ≡ true →
    entries_up_to_combination k (e ∷ es) ≡ e ∷ entries_up_to_combination k es
up_to-in k e es l = rw l refl

up_to-out : (k : Combination) (e : Combination × ℕ) (es : CombinationsWithCounts)
    → is_le (combination_cmp e.0 k) ≡ false →
    entries_up_to_combination k (e ∷ es) ≡ entries_up_to_combination k es
up_to-out k e es l = rw l refl

turned : (k x : Combination) (o : Ordering) → combination_cmp k x ≡ o → combination_cmp x k ≡ ordering_reverse o
turned k x o e = combination_cmp_total.antisymm x k ∙ ap ordering_reverse e

-- if all entries come after the combination, no entry is up to it
none-up_to : (k x : Combination) (es : CombinationsWithCounts) → combination_cmp k x ≡ Less
    → IsTrue (below_all combination_cmp x es) →
    entries_up_to_combination k es ≡ []
none-up_to k x [] l b = refl
none-up_to k x (e ∷ es) l b =
    let both = both_true _ _ b in
    let here : combination_cmp k e.0 ≡ Less = combination_cmp_total.trans k x e.0 l (is_less _ both.0) in
    up_to-out k e es (ap is_le (turned k e.0 Less here)) ∙ none-up_to k x es l both.1

-- the pages of the entries make the table again, if the pages of the later entries do
pages-more : (k : Combination) (e : Combination × ℕ) (es : CombinationsWithCounts)
    → IsTrue (is_sorted combination_cmp (e ∷ es)) →
    entries_up_to_combination k es ++ entries_after_combination k es ≡ es → (o : Ordering) → combination_cmp k e.0 ≡ o →
    entries_up_to_combination k (e ∷ es) ++ entries_after_combination k (e ∷ es) ≡ e ∷ es
pages-more k e es s join o is = by o is
  where
    more : (o : Ordering) → combination_cmp k e.0 ≡ o → is_lt o ≡ false → is_le (ordering_reverse o) ≡ true →
        entries_up_to_combination k (e ∷ es) ++ entries_after_combination k (e ∷ es) ≡ e ∷ es
    more o is not_lt le =
        ap (λ (r : CombinationsWithCounts). entries_up_to_combination k (e ∷ es) ++ r) (rest-out k e es (ap is_lt is
        ∙ not_lt))
        ∙ ap (λ (r : CombinationsWithCounts). r ++ entries_after_combination k es)
        (up_to-in k e es (ap is_le (turned k e.0 o is) ∙ le))
        ∙ ap (λ (r : CombinationsWithCounts). e ∷ r) join

    by : (o : Ordering) → combination_cmp k e.0 ≡ o → entries_up_to_combination k (e ∷ es)
        ++ entries_after_combination k (e ∷ es) ≡ e ∷ es
    by Less is =
        ap (λ (r : CombinationsWithCounts). r ++ entries_after_combination k (e ∷ es))
        (up_to-out k e es (ap is_le (turned k e.0 Less is)) ∙ none-up_to k e.0 es is (both_true _ _ s).0)
        ∙ rest-behind k (e ∷ es) zero e s (omega arith) is
    by Equal is = more Equal is refl refl
    by Greater is = more Greater is refl refl

pages : (k : Combination) (es : CombinationsWithCounts) → IsTrue (is_sorted combination_cmp es)
    → entries_up_to_combination k es ++ entries_after_combination k es ≡ es
pages k [] s = refl
pages k (e ∷ es) s = pages-more k e es s (pages k es (both_true _ _ s).1) (combination_cmp k e.0) refl

pub pages-join : TableSplitsAtCombination
pages-join skip cells table is k = pages k table (ascending_to table is.ascending)

-- if all entries come after a combination, the rest after it is all entries
all-above : (x : Combination) (es : CombinationsWithCounts) → IsTrue (below_all combination_cmp x es)
    → entries_after_combination x es ≡ es
all-above x [] b = refl
all-above x (e ∷ es) b =
    let both = both_true _ _ b in
    rest-in x e es (is_less _ both.0) ∙ ap (λ (r : CombinationsWithCounts). e ∷ r) (all-above x es both.1)

below-middle : (x : Combination) (page rest : CombinationsWithCounts) (last : Combination × ℕ) →
    IsTrue (below_all combination_cmp x (page ++ last ∷ rest)) → combination_cmp x last.0 ≡ Less
below-middle x [] rest last b = is_less _ (both_true _ _ b).0
below-middle x (e ∷ page) rest last b = below-middle x page rest last (both_true _ _ b).1

follows : (page rest : CombinationsWithCounts) (last : Combination × ℕ)
    → IsTrue (is_sorted combination_cmp (page ++ last ∷ rest)) →
    entries_after_combination last.0 (page ++ last ∷ rest) ≡ rest
follows [] rest last s = rest-out last.0 last rest (ap is_lt (tied_itself combination_cmp_total last.0))
    ∙ all-above last.0 rest (both_true _ _ s).0
follows (e ∷ page) rest last s =
    let both = both_true _ _ s in
    let less = below-middle e.0 page rest last both.0 in
    rest-out last.0 e (page ++ last ∷ rest) (ap is_lt (turned e.0 last.0 Less less)) ∙ follows page rest last both.1

pub rest-follows : RestOfTableIsLaterEntries
rest-follows skip cells page rest last is = follows page rest last (ascending_to (page ++ last ∷ rest) is.ascending)
