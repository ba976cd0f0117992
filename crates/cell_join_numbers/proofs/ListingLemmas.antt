-- Lists of entries, and merges of tables.
use Rattle.std.proofs.Common.{◌≡◌, ℕ, zero, suc, ◌+◌, ◌<◌, List, [], ◌∷◌, ◌++◌, map, Option, Some, None, true, false, cond, unwrap_or, refl, ap, sym, ◌∙◌, arith, zero-add, add-zero, subst}
use Rattle.std.proofs.lemmas.List.Elements.{All-head, All-tail}
use Rattle.std.proofs.lemmas.List.Sums.{sum_by-cons, sum_by-append}
use Rattle.std.specs.Prelude.{sum_by, flat_map, All}
use Rattle.std.specs.List.{AllByRecursion}
use Rattle.std.specs.List.Sorted.{IsStrictlySortedBy}
use Rattle.std.specs.Ordering.{eq_by_cmp, is_eq}
use Rattle.std.specs.FinMap.Entries.{find}
use Rattle.std.specs.declared.cmp.Ordering.TheVariants.{Less}
use Rattle.cell_stats_combinations.specs.Combinations.{Combination, combination_cmp}
use Rattle.cell_stats_combinations.proofs.OrderLemmas.{combination_cmp-exact, is_equal}
use Rattle.cell_stats_combinations.specs.Listed.{entry_count_of_combination, listed_count_of_combination}
use Rattle.cell_stats.specs.CategoryTables.{CombinationsWithCounts}
use Rattle.cell_stats.proofs.TableLemmas.{found-listed, keys_of, stands}
use Rattle.cell_join_numbers.specs.TableParts.{combination_count_in_table, IsMergeOfTables}
use Rattle.cell_join_numbers.specs.Merging.{AreAscendingNonzeroEntries, TableGroupWithMerge}
use Rattle.cell_join_numbers.specs.Merging.{MergingInGroupsIsMergingAll}
use Rattle.cell_join_numbers.specs.Merging.{SummedCountsAreTheMerge}

-- ---- the count of a combination is its listed count

none-behind : (x : Combination) (es : CombinationsWithCounts) → AllByRecursion (λ y. combination_cmp x y ≡ Less) (keys_of es) → listed_count_of_combination x es ≡ 0
none-behind x [] above = refl
none-behind x (e ∷ es) above =
    let here : entry_count_of_combination x e ≡ 0 = ap (λ o. cond (is_eq o) e.1 0) above.0 in
    omega (arith, sum_by-cons (entry_count_of_combination x) e es, here, none-behind x es above.1)

listed-beside : (k : Combination) (es : CombinationsWithCounts) → IsStrictlySortedBy combination_cmp (keys_of es) → combination_count_in_table k es ≡ listed_count_of_combination k es
unfolding IsStrictlySortedBy
listed-beside k [] up = refl
listed-beside k (e ∷ es) up =
    elim (eq_by_cmp combination_cmp k e.0) as (λ b. eq_by_cmp combination_cmp k e.0 ≡ b → unwrap_or (cond b (Some e.1) (find combination_cmp k es)) 0 ≡ cond b e.1 0 + listed_count_of_combination k es) [
      | true ↦ λ t.
          let none : listed_count_of_combination k es ≡ 0 = ap (λ x. listed_count_of_combination x es) (combination_cmp-exact k e.0 (is_equal _ t)) ∙ none-behind e.0 es up.0 in
          omega (arith, none)
      | false ↦ λ t. listed-beside k es up.1 ∙ sym (zero-add (listed_count_of_combination k es))
    ] refl ∙ sym (sum_by-cons (entry_count_of_combination k) e es)

none-or-some : (o : Option ℕ) (n : ℕ) → 0 < n → n ≡ unwrap_or o 0 → o ≡ Some n
none-or-some None n some is = absurd (omega (arith, some, is))
none-or-some (Some m) n some is = ap Some (sym is)

-- ---- merges, in terms of the counts of combinations

IsMergeOfTables-from : (tables : List CombinationsWithCounts) (merged : CombinationsWithCounts) → AreAscendingNonzeroEntries merged → ((k : Combination) → combination_count_in_table k merged ≡ sum_by (combination_count_in_table k) tables) → IsMergeOfTables tables merged
IsMergeOfTables-from tables merged listing sums = record {
  ascending = listing.ascending;
  counted = λ k n. (
    λ c.
        let is : find combination_cmp k merged ≡ Some n = found-listed k n merged listing.ascending c in
        let some : 0 < n = subst (λ (e : Combination × ℕ). 0 < e.1) c.2 (listing.no_zero c.0 (k, n) c.1) in
        (some, sym (ap (λ o. unwrap_or o 0) is) ∙ sums k),
    λ h. stands k n merged (none-or-some (find combination_cmp k merged) n h.0 (h.1 ∙ sym (sums k))),
  );
}

beside-merge : (tables : List CombinationsWithCounts) (merged : CombinationsWithCounts) → IsMergeOfTables tables merged → (k : Combination) → combination_count_in_table k merged ≡ sum_by (combination_count_in_table k) tables
beside-merge tables merged merge k = by (find combination_cmp k merged) refl
    (sum_by (combination_count_in_table k) tables) refl
  where
    by : (o : Option ℕ) → find combination_cmp k merged ≡ o → (n : ℕ) → sum_by (combination_count_in_table k) tables ≡ n → unwrap_or o 0 ≡ n
    by (Some m) is n sum = ((merge.counted k m).0 (stands k m merged is)).1 ∙ sum
    by None is zero sum = refl
    by None is (suc n) sum =
        let c = (merge.counted k (suc n)).1 (omega arith, sym sum) in
        let found = found-listed k (suc n) merged merge.ascending c in
        let both : None ≡ Some (suc n) = sym is ∙ found in
        cc

-- ---- merges of merges

flat-cons : (group : TableGroupWithMerge) (groups : List TableGroupWithMerge) → flat_map (λ (g : TableGroupWithMerge). g.tables) (group ∷ groups) ≡ group.tables ++ flat_map (λ (g : TableGroupWithMerge). g.tables) groups
flat-cons group groups = refl

sum-groups : (k : Combination) (groups : List TableGroupWithMerge) → All (λ group. IsMergeOfTables group.tables group.merged) groups → sum_by (combination_count_in_table k) (map (λ group. group.merged) groups) ≡ sum_by (combination_count_in_table k) (flat_map (λ group. group.tables) groups)
sum-groups k [] all = refl
sum-groups k (group ∷ groups) all =
    let P : TableGroupWithMerge → Type 0 = λ g. IsMergeOfTables g.tables g.merged in
    let here = beside-merge group.tables group.merged (All-head P group groups all) k in
    omega (
      arith,
      sum_by-cons (combination_count_in_table k) group.merged (map (λ (g : TableGroupWithMerge). g.merged) groups),
      ap (sum_by (combination_count_in_table k)) (flat-cons group groups),
      sum_by-append (combination_count_in_table k) group.tables
          (flat_map (λ (g : TableGroupWithMerge). g.tables) groups),
      here,
      sum-groups k groups (All-tail P group groups all),
    )

pub merges-merge : MergingInGroupsIsMergingAll
merges-merge groups all pairs merge = record {
  ascending = merge.ascending;
  counted = λ k n.
      let sums = sum-groups k groups all in
      let h = merge.counted k n in
      (λ c. let both = h.0 c in (both.0, both.1 ∙ sums), λ p. h.1 (p.0, p.1 ∙ sym sums));
}

-- ---- sums of listed counts

sums-listed : (k : Combination) (tables : List CombinationsWithCounts) → All AreAscendingNonzeroEntries tables →
    sum_by (combination_count_in_table k) tables ≡ sum_by (listed_count_of_combination k) tables
sums-listed k [] all = refl
sums-listed k (table ∷ tables) all =
    omega (
      arith,
      sum_by-cons (combination_count_in_table k) table tables,
      sum_by-cons (listed_count_of_combination k) table tables,
      listed-beside k table (All-head AreAscendingNonzeroEntries table tables all).ascending,
      sums-listed k tables (All-tail AreAscendingNonzeroEntries table tables all),
    )

pub sums-merge : SummedCountsAreTheMerge
sums-merge tables all sums listing same =
    IsMergeOfTables-from tables sums listing
    (λ k. listed-beside k sums listing.ascending ∙ same k ∙ sym (sums-listed k tables all))
