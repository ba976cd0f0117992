-- A table's entries, and the proof that the table is unique.
use Rattle.std.proofs.Common.{◌≡◌, ℕ, zero, suc, ◌+◌, ◌<◌, map, get_or, [], ◌∷◌, List, Option, Some, None, Bool, true, false, ◌↔◌, cond, IsTrue, ap, sym, ◌∙◌, refl, arith, zero-add}
use Rattle.std.specs.Prelude.{T}
use Rattle.std.specs.Ordering.{eq_by_cmp, is_eq}
use Rattle.std.specs.declared.cmp.Ordering.TheVariants.{Less}
use Rattle.std.proofs.lemmas.List.Sums.{sum_by-append}
use Rattle.std.specs.List.{Contains, AllByRecursion}
use Rattle.std.specs.List.Sorted.{IsStrictlySortedBy}
use Rattle.std.specs.FinMap as finmap
use Rattle.std.specs.FinMap.Entries.{find, is_sorted, below_all, same_entries}
use Rattle.cell_stats_combinations.specs.Combinations.{Combination, combination_cmp, combination_cmp_total}
use Rattle.cell_stats_counts.specs.Counts.{cell_count_of_combination}
use Rattle.cell_stats_combinations.specs.Listed.{CombinationCounts, entry_count_of_combination}
use Rattle.cell_stats_combinations.specs.Listed.{listed_count_of_combination, NoEntryCountIsZero}
use Rattle.cell_stats_combinations.specs.declared.skip.Skip.{Skip}
use Rattle.cell_stats.specs.CategoryTables.{CombinationsWithCounts, IsTable, combination_counts, table_of_cells}
use Rattle.cell_stats_combinations.specs.LeftOut.{kept_cells, combination_is_left_out}
use Rattle.cell_stats_combinations.proofs.OrderLemmas.{combination_cmp-exact, is_equal}
use Rattle.cell_stats.proofs.SortedLemmas.{both_true, is_less, each_found}

-- ---- the table, in terms of lookups

pub T_from : (b : Bool) → IsTrue b → T b
T_from true e = tt
T_from false e = cc

pub from_T : (b : Bool) → T b → IsTrue b
from_T true t = refl
from_T false t = absurd t

abbrev pub keys_of : CombinationsWithCounts → List Combination
keys_of es = map (λ e. e.0) es

-- the table of cells if none is left out
pub record IsTally (cells : List Combination) (pairs : CombinationsWithCounts) : Type 0 where
  pub ascending : IsStrictlySortedBy combination_cmp (map (λ pair. pair.0) pairs)
  pub counted : (k : Combination) (n : ℕ) → Contains pairs (k, n) ↔ ((0 < n) × (n ≡ cell_count_of_combination k cells))

below_from : (x : Combination) (es : CombinationsWithCounts) → IsTrue (below_all combination_cmp x es) → AllByRecursion (λ y. combination_cmp x y ≡ Less) (keys_of es)
below_from x [] b = tt
below_from x (e ∷ es) b = let h = both_true _ _ b in (is_less _ h.0, below_from x es h.1)

below_to : (x : Combination) (es : CombinationsWithCounts) → AllByRecursion (λ y. combination_cmp x y ≡ Less) (keys_of es) → IsTrue (below_all combination_cmp x es)
below_to x [] h = refl
below_to x (e ∷ es) h = rw h.0 (below_to x es h.1)

ascending_from : (es : CombinationsWithCounts) → IsTrue (is_sorted combination_cmp es)
    → IsStrictlySortedBy combination_cmp (keys_of es)
unfolding IsStrictlySortedBy
ascending_from [] s = tt
ascending_from (e ∷ es) s = let h = both_true _ _ s in (below_from e.0 es h.0, ascending_from es h.1)

pub ascending_to : (es : CombinationsWithCounts) → IsStrictlySortedBy combination_cmp (keys_of es) → IsTrue (is_sorted combination_cmp es)
unfolding IsStrictlySortedBy
ascending_to [] h = refl
ascending_to (e ∷ es) h = rw (below_to e.0 es h.0) (ascending_to es h.1)

-- a count of 0 is not an entry
abbrev pub found : ℕ → Option ℕ
found zero = None
found (suc n) = Some (suc n)

-- the pairs are in order, and each combination is found with its count
pub record IsFound (cells : List Combination) (es : CombinationsWithCounts) : Type 0 where
  pub sorted : IsTrue (is_sorted combination_cmp es)
  pub finds : (k : Combination) → find combination_cmp k es ≡ found (cell_count_of_combination k cells)

-- a combination that is found is in the list
pub stands : (k : Combination) (n : ℕ) (es : CombinationsWithCounts) → find combination_cmp k es ≡ Some n
    → Contains es (k, n)
stands k n [] e = cc
stands k n (x ∷ es) e =
    elim (eq_by_cmp combination_cmp k x.0) as (λ b. eq_by_cmp combination_cmp k x.0 ≡ b → cond b (Some x.1) (find combination_cmp k es) ≡ Some n → Contains (x ∷ es) (k, n)) [
      | true ↦ λ t is.
          let same : k ≡ x.0 = combination_cmp-exact k x.0 (is_equal _ t) in
          let count : x.1 ≡ n = cc in
          (0, omega arith, λ i. (sym same i, count i))
      | false ↦ λ t is. let rest = stands k n es is in (suc rest.0, omega (arith, rest.1), rest.2)
    ] refl e

-- a combination in the list is found
pub found-listed : (k : Combination) (n : ℕ) (es : CombinationsWithCounts)
    → IsStrictlySortedBy combination_cmp (keys_of es)
    → Contains es (k, n) → find combination_cmp k es ≡ Some n
found-listed k n es up c =
    let at : find combination_cmp (get_or es c.0 (k, n)).0 es ≡ Some (get_or es c.0 (k, n)).1 =
    each_found combination_cmp combination_cmp_total es (ascending_to es up) c.0 (k, n) c.1 in
    rw c.2 at at

found_some : (n v : ℕ) → Some v ≡ found n → (0 < v) × (v ≡ n)
found_some zero v e = cc
found_some (suc n) v e = let same : v ≡ suc n = cc in (omega arith, same)

counted_from : (cells : List Combination) (es : CombinationsWithCounts) → IsFound cells es → (k : Combination) (n : ℕ) → Contains es (k, n) ↔ ((0 < n) × (n ≡ cell_count_of_combination k cells))
counted_from cells es t k n = (
  λ c.
      let at = each_found combination_cmp combination_cmp_total es t.sorted c.0 (k, n) c.1 in
      let is : find combination_cmp k es ≡ Some n = rw c.2 at at in
      found_some (cell_count_of_combination k cells) n (sym is ∙ t.finds k),
  λ h. stands k n es (t.finds k ∙ rw (← h.1) (found_positive n h.0)),
)
  where
    found_positive : (n : ℕ) → 0 < n → found n ≡ Some n
    found_positive zero p = absurd (omega arith)
    found_positive (suc n) p = refl

pub IsTally-from : (cells : List Combination) (es : CombinationsWithCounts) → IsFound cells es → IsTally cells es
IsTally-from cells es t = record { ascending = ascending_from es t.sorted; counted = counted_from cells es t }

finds_from : (cells : List Combination) (es : CombinationsWithCounts) → IsTally cells es → (k : Combination) (o : Option ℕ) → find combination_cmp k es ≡ o → o ≡ found (cell_count_of_combination k cells)
finds_from cells es t k (Some v) e = let h = (t.counted k v).0 (stands k v es e) in rw (← h.1) (found_positive v h.0)
  where
    found_positive : (n : ℕ) → 0 < n → Some n ≡ found n
    found_positive zero p = absurd (omega arith)
    found_positive (suc n) p = refl
finds_from cells es t k None e = by (cell_count_of_combination k cells) refl
  where
    by : (n : ℕ) → cell_count_of_combination k cells ≡ n → None ≡ found n
    by zero z = refl
    by (suc n) z =
        let c = (t.counted k (suc n)).1 (omega arith, sym z) in
        let at = each_found combination_cmp combination_cmp_total es (ascending_to es t.ascending) c.0 (k, suc n) c.1 in
        let is : find combination_cmp k es ≡ Some (suc n) = rw c.2 at at in
        cc

pub IsFound-from : (cells : List Combination) (es : CombinationsWithCounts) → IsTally cells es → IsFound cells es
IsFound-from cells es t = record { sorted = ascending_to es t.ascending; finds = λ k. finds_from cells es t k _ refl }

-- ---- there is exactly one table

pub one_table : (cells : List Combination) (a b : CombinationsWithCounts) → IsTally cells a → IsTally cells b → a ≡ b
one_table cells a b p q =
    let s = IsFound-from cells a p in
    let t = IsFound-from cells b q in
    same_entries combination_cmp combination_cmp_total combination_cmp-exact a b (T_from _ s.sorted) (T_from _ t.sorted) (λ k. s.finds k ∙ sym (t.finds k))

pub count_cons : (q k : Combination) (cells : List Combination) → cell_count_of_combination q (k ∷ cells) ≡ cond (eq_by_cmp combination_cmp q k) 1 0 + cell_count_of_combination q cells
count_cons q k cells = sum_by-append (λ (x : Combination). cond (eq_by_cmp combination_cmp q x) 1 0) (k ∷ []) cells ∙ ap (λ n. n + cell_count_of_combination q cells) (zero-add _)

-- a value if the count is not 0, otherwise none
abbrev occurring : ℕ → ℕ → Option ℕ
occurring zero v = None
occurring (suc n) v = Some v

occurring_itself : (n : ℕ) → occurring n n ≡ found n
occurring_itself zero = refl
occurring_itself (suc n) = refl

-- looking up a combination in the list of cells finds its value if it occurs
found_among : (f : Combination → ℕ) (q : Combination) (cells : List Combination) → find combination_cmp q (map (λ k. (k, f k)) cells) ≡ occurring (cell_count_of_combination q cells) (f q)
found_among f q [] = refl
found_among f q (k ∷ cells) =
    elim (eq_by_cmp combination_cmp q k) as (λ b. eq_by_cmp combination_cmp q k ≡ b → cond b (Some (f k)) (find combination_cmp q (map (λ x. (x, f x)) cells)) ≡ occurring (cond b 1 0 + cell_count_of_combination q cells) (f q)) [
      | true ↦ λ t.
          let same : q ≡ k = combination_cmp-exact q k (is_equal _ t) in
          ap (λ x. Some (f x)) (sym same) ∙ ap (λ n. occurring n (f q)) (one_more (cell_count_of_combination q cells))
      | false ↦ λ t. found_among f q cells ∙ ap (λ n. occurring n (f q))
          (sym (zero-add (cell_count_of_combination q cells)))
    ] refl ∙ ap (λ n. occurring n (f q)) (sym (count_cons q k cells))
  where
    one_more : (n : ℕ) → suc n ≡ 1 + n
    one_more n = omega arith

pub combination_counts-IsTally : (cells : List Combination) → IsTally cells (combination_counts cells)
unfolding combination_counts
combination_counts-IsTally cells =
    let m = finmap.from_entries {R = combination_cmp} (map (λ k. (k, cell_count_of_combination k cells)) cells) in
    IsTally-from cells _ (record {
      sorted = from_T _ (finmap.entries_sorted m);
      finds = λ k. sym (finmap.get-entries m k) ∙ finmap.get-from_entries combination_cmp_total _ k ∙ found_among (λ x. cell_count_of_combination x cells) k cells ∙ occurring_itself (cell_count_of_combination k cells);
    })

-- ---- combinations that are left out

kept_out : (skip : Skip) (x : Combination) (cells : List Combination) → combination_is_left_out skip x ≡ true → kept_cells skip (x ∷ cells) ≡ kept_cells skip cells
kept_out skip x cells l = rw l refl

kept_in : (skip : Skip) (x : Combination) (cells : List Combination) → combination_is_left_out skip x ≡ false → kept_cells skip (x ∷ cells) ≡ x ∷ kept_cells skip cells
kept_in skip x cells l = rw l refl

-- combinations that are left out have a count of 0
pub count_kept : (skip : Skip) (k : Combination) (cells : List Combination) → cell_count_of_combination k (kept_cells skip cells) ≡ cond (combination_is_left_out skip k) 0 (cell_count_of_combination k cells)
count_kept skip k [] = nothing (combination_is_left_out skip k)
  where
    nothing : (b : Bool) → ◌≡◌ {A = ℕ} 0 (cond b 0 0)
    nothing true = refl
    nothing false = refl
count_kept skip k (x ∷ cells) = by (combination_is_left_out skip x) (eq_by_cmp combination_cmp k x) refl refl (count_kept skip k cells)
  where
    by : (b e : Bool) → combination_is_left_out skip x ≡ b → eq_by_cmp combination_cmp k x ≡ e → cell_count_of_combination k (kept_cells skip cells) ≡ cond (combination_is_left_out skip k) 0 (cell_count_of_combination k cells) → cell_count_of_combination k (kept_cells skip (x ∷ cells)) ≡ cond (combination_is_left_out skip k) 0 (cell_count_of_combination k (x ∷ cells))
    by true true l e on =
        let left : combination_is_left_out skip k ≡ true = ap (combination_is_left_out skip)
        (combination_cmp-exact k x (is_equal _ e)) ∙ l in
        ap (cell_count_of_combination k) (kept_out skip x cells l) ∙ on ∙ ap (λ b. cond b 0 (cell_count_of_combination k cells)) left ∙ ap (λ b. cond b 0 (cell_count_of_combination k (x ∷ cells))) (sym left)
    by true false l e on =
        ap (cell_count_of_combination k) (kept_out skip x cells l) ∙ on ∙ ap (λ n. cond (combination_is_left_out skip k) 0 n) (sym (count_cons k x cells ∙ ap (λ b. cond b 1 0 + cell_count_of_combination k cells) e ∙ zero-add (cell_count_of_combination k cells)))
    by false true l e on =
        let left : combination_is_left_out skip k ≡ false = ap (combination_is_left_out skip)
        (combination_cmp-exact k x (is_equal _ e)) ∙ l in
        ap (cell_count_of_combination k) (kept_in skip x cells l) ∙ count_cons k x (kept_cells skip cells) ∙ ap (λ n. cond (eq_by_cmp combination_cmp k x) 1 0 + n) (on ∙ ap (λ b. cond b 0 (cell_count_of_combination k cells)) left)
        ∙ sym (count_cons k x cells) ∙ ap (λ b. cond b 0 (cell_count_of_combination k (x ∷ cells))) (sym left)
    by false false l e on =
        ap (cell_count_of_combination k) (kept_in skip x cells l) ∙ count_cons k x (kept_cells skip cells) ∙ ap (λ b. cond b 1 0 + cell_count_of_combination k (kept_cells skip cells)) e ∙ zero-add _ ∙ on
        ∙ ap (λ n. cond (combination_is_left_out skip k) 0 n) (sym (count_cons k x cells ∙ ap (λ b. cond b 1 0 + cell_count_of_combination k cells) e ∙ zero-add (cell_count_of_combination k cells)))

module _ (skip : Skip) (cells : List Combination) (es : CombinationsWithCounts) where
  -- a combination has a count among the kept cells exactly if it is not left out and has this count among all cells
  stands_kept : (b : Bool) (k : Combination) (n : ℕ) → combination_is_left_out skip k ≡ b → ((0 < n) × (n ≡ cell_count_of_combination k (kept_cells skip cells))) ↔ ((combination_is_left_out skip k ≡ false) × ((0 < n) × (n ≡ cell_count_of_combination k cells)))
  stands_kept true k n left = (
    λ h.
        let none : cell_count_of_combination k (kept_cells skip cells) ≡ 0 = count_kept skip k cells ∙ ap (λ b. cond b 0 (cell_count_of_combination k cells)) left in
        absurd (omega (arith, h.0, h.1)),
    λ h. let kept_too = h.0 in cc,
  )
  stands_kept false k n left =
      let same : cell_count_of_combination k (kept_cells skip cells) ≡ cell_count_of_combination k cells = count_kept skip k cells ∙ ap (λ b. cond b 0 (cell_count_of_combination k cells)) left in
      (λ h. (left, (h.0, h.1 ∙ same)), λ h. (h.1.0, h.1.1 ∙ sym same))

  pub IsTable-kept : IsTally (kept_cells skip cells) es → IsTable skip cells es
  IsTable-kept t = record {
    ascending = t.ascending;
    counted = λ k n.
        let s = stands_kept _ k n refl in
        let h = t.counted k n in
        (λ c. s.0 (h.0 c), λ p. h.1 (s.1 p));
  }

  pub kept-IsTable : IsTable skip cells es → IsTally (kept_cells skip cells) es
  kept-IsTable t = record {
    ascending = t.ascending;
    counted = λ k n.
        let s = stands_kept _ k n refl in
        let h = t.counted k n in
        (λ c. s.1 (h.0 c), λ p. h.1 (s.0 p));
  }

pub table_of-IsTable : (skip : Skip) (cells : List Combination) → IsTable skip cells (table_of_cells skip cells)
table_of-IsTable skip cells = IsTable-kept skip cells _ (combination_counts-IsTally (kept_cells skip cells))

pub one_table_kept : (skip : Skip) (cells : List Combination) (a b : CombinationsWithCounts) → IsTable skip cells a → IsTable skip cells b → a ≡ b
one_table_kept skip cells a b p q = one_table (kept_cells skip cells) a b (kept-IsTable skip cells a p) (kept-IsTable skip cells b q)

pub table_is : (skip : Skip) (cells : List Combination) (es : CombinationsWithCounts) → IsTable skip cells es
    → es ≡ table_of_cells skip cells
table_is skip cells es table = one_table_kept skip cells es (table_of_cells skip cells) table
    (table_of-IsTable skip cells)

-- ---- the table from the counts in a list

-- a combination smaller than all entries is not counted
none_behind : (x : Combination) (es : CombinationCounts) → AllByRecursion (λ y. combination_cmp x y ≡ Less) (keys_of es) → listed_count_of_combination x es ≡ 0
none_behind x [] above = refl
none_behind x (e ∷ es) above =
    sum_by-append (entry_count_of_combination x) (e ∷ []) es ∙ ap (λ n. n + listed_count_of_combination x es) (zero-add (entry_count_of_combination x e)) ∙ ap (λ o. cond (is_eq o) e.1 0 + listed_count_of_combination x es) above.0
    ∙ ap (λ n. 0 + n) (none_behind x es above.1)

find_listed : (k : Combination) (es : CombinationCounts) → IsStrictlySortedBy combination_cmp (keys_of es) → NoEntryCountIsZero es → find combination_cmp k es ≡ found (listed_count_of_combination k es)
unfolding IsStrictlySortedBy
find_listed k [] up zeros = refl
find_listed k (e ∷ es) up zeros =
    elim (eq_by_cmp combination_cmp k e.0) as (λ b. eq_by_cmp combination_cmp k e.0 ≡ b → cond b (Some e.1) (find combination_cmp k es) ≡ found (cond b e.1 0 + listed_count_of_combination k es)) [
      | true ↦ λ t.
          let same : k ≡ e.0 = combination_cmp-exact k e.0 (is_equal _ t) in
          let none : listed_count_of_combination k es ≡ 0 = ap (λ x. listed_count_of_combination x es) same
          ∙ none_behind e.0 es up.0 in
          positive e.1 (zeros 0 e (omega arith)) ∙ ap found (added e.1 (listed_count_of_combination k es) none)
      | false ↦ λ t. find_listed k es up.1 (λ i d within. zeros (suc i) d (omega (arith, within))) ∙ ap found (sym (zero-add (listed_count_of_combination k es)))
    ] refl ∙ ap found (sym (sum_by-append (entry_count_of_combination k) (e ∷ []) es ∙ ap (λ n. n + listed_count_of_combination k es) (zero-add (entry_count_of_combination k e))))
  where
    positive : (n : ℕ) → 0 < n → Some n ≡ found n
    positive zero p = absurd (omega arith)
    positive (suc n) p = refl

    added : (n m : ℕ) → m ≡ 0 → n ≡ n + m
    added n m none = omega (arith, none)

-- an ascending list of the counts of the kept cells, without zeros, is their table
pub IsTable-listed : (skip : Skip) (cells : List Combination) (es : CombinationCounts) → IsStrictlySortedBy combination_cmp (keys_of es) → ((k : Combination) → listed_count_of_combination k es ≡ cell_count_of_combination k (kept_cells skip cells)) → NoEntryCountIsZero es → IsTable skip cells es
IsTable-listed skip cells es ascends counts zeros =
    IsTable-kept skip cells es (IsTally-from (kept_cells skip cells) es (record {
      sorted = ascending_to es ascends;
      finds = λ k. find_listed k es ascends zeros ∙ ap found (counts k);
    }))
