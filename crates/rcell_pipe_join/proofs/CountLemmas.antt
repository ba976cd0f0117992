-- Counts of entries, and counts of cells with a property.
use Rattle.std.proofs.Common.{◌≡◌, ◌∙◌, ℕ, zero, suc, ◌+◌, ◌<◌, List, [], ◌∷◌, Bool, true, false, cond, unwrap_or}
use Rattle.std.proofs.Common.{Some, refl, ap, sym, arith, zero-add, count_by, sum_by}
use Rattle.std.specs.FinMap.Entries.{find}
use Rattle.std.specs.List.{AllByRecursion}
use Rattle.std.specs.List.Sorted.{IsStrictlySortedBy}
use Rattle.std.specs.Ordering.{eq_by_cmp, is_eq}
use Rattle.std.specs.declared.cmp.Ordering.TheVariants.{Less}
use Rattle.std.proofs.lemmas.List.Sums.{sum_by-cons}
use Rattle.cell_stats_combinations.specs.declared.skip.Skip.{Skip}
use Rattle.cell_stats_combinations.specs.Combinations.{Combination, combination_cmp}
use Rattle.cell_stats_combinations.specs.LeftOut.{kept_cells}
use Rattle.cell_stats_combinations.proofs.OrderLemmas.{combination_cmp-exact, is_equal, same-itself}
use Rattle.cell_stats_counts.specs.Counts.{cell_count_of_combination}
use Rattle.cell_stats_combinations.specs.Listed.{CombinationCounts, entry_count_of_combination}
use Rattle.cell_stats_combinations.specs.Listed.{listed_count_of_combination}
use Rattle.cell_stats.specs.CategoryTables.{table_of_cells}
use Rattle.cell_stats.proofs.TableLemmas.{IsFound-from, combination_counts-IsTally, count_cons, found, keys_of}

-- ---- the number of cells with a property

-- the number of cells that entries count for combinations with a property
abbrev weighed : (Combination → Bool) → Combination × ℕ → ℕ
weighed p entry = cond (p entry.0) entry.1 0

abbrev pub listed_with : (Combination → Bool) → CombinationCounts → ℕ
listed_with p entries = sum_by (weighed p) entries

-- the entries without one cell of a combination
abbrev less : Bool → ℕ → Combination × ℕ → CombinationCounts → CombinationCounts → CombinationCounts
less true (suc n) e es others = (e.0, n) ∷ es
less true zero e es others = e ∷ others
less false n e es others = e ∷ others

abbrev one_less : Combination → CombinationCounts → CombinationCounts
one_less c [] = []
one_less c (e ∷ es) = less (eq_by_cmp combination_cmp c e.0) e.1 e es (one_less c es)

split : (b : Bool) (n : ℕ) → cond b (suc n) 0 ≡ cond b 1 0 + cond b n 0
split true n = omega arith
split false n = refl

one-less : (p : Combination → Bool) (c : Combination) (es : CombinationCounts) → 0 < listed_count_of_combination c es
    → listed_with p es ≡ cond (p c) 1 0 + listed_with p (one_less c es)
one-less p c [] some = absurd (omega (arith, some))
one-less p c (e ∷ es) some = by (one-less p c es) (eq_by_cmp combination_cmp c e.0) e.1 refl refl
  where
    later : (0 < listed_count_of_combination c es → listed_with p es ≡ cond (p c) 1 0 + listed_with p (one_less c es))
        → entry_count_of_combination c e ≡ 0 → listed_with p (e ∷ es) ≡ cond (p c) 1 0 + listed_with p (e
        ∷ one_less c es)
    later others none =
        let all = sum_by-cons (entry_count_of_combination c) e es in
        omega (
          arith,
          sum_by-cons (weighed p) e es,
          sum_by-cons (weighed p) e (one_less c es),
          others (omega (arith, some, none, all)),
        )

    by : (0 < listed_count_of_combination c es → listed_with p es ≡ cond (p c) 1 0 + listed_with p (one_less c es))
        → (b : Bool) (n : ℕ) → eq_by_cmp combination_cmp c e.0 ≡ b → e.1 ≡ n
        → listed_with p (e ∷ es) ≡ cond (p c) 1 0 + listed_with p (less b n e es (one_less c es))
    by others true (suc n) is many =
        let same : c ≡ e.0 = combination_cmp-exact c e.0 (is_equal _ is) in
        let here : weighed p e ≡ cond (p c) 1 0 + weighed p (e.0, n) =
        ap (λ m. cond (p e.0) m 0) many ∙ split (p e.0) n ∙ ap (λ k. cond (p k) 1 0 + weighed p (e.0, n)) (sym same) in
        omega (arith, sum_by-cons (weighed p) e es, sum_by-cons (weighed p) (e.0, n) es, here)
    by others true zero is many = later others (ap (λ b. cond b e.1 0) is ∙ many)
    by others false n is many = later others (ap (λ b. cond b e.1 0) is)

nothing : (p : Combination → Bool) (es : CombinationCounts) → ((k : Combination)
    → listed_count_of_combination k es ≡ 0) → listed_with p es ≡ 0
nothing p [] none = refl
nothing p (e ∷ es) none =
    let mine : entry_count_of_combination e.0 e ≡ e.1 = ap (λ b. cond b e.1 0) (same-itself e.0) in
    let empty : e.1 ≡ 0 = omega (arith, mine, none e.0, sum_by-cons (entry_count_of_combination e.0) e es) in
    omega (
      arith,
      sum_by-cons (weighed p) e es,
      ap (λ n. cond (p e.0) n 0) empty,
      zeros (p e.0),
      nothing p es (λ k. omega (arith, none k, sum_by-cons (entry_count_of_combination k) e es)),
    )
  where
    zeros : (b : Bool) → ◌≡◌ {A = ℕ} (cond b 0 0) 0
    zeros true = refl
    zeros false = refl

-- if entries have the counts of cells, they count as many cells with a property as there are
pub listed-with : (p : Combination → Bool) (cells : List Combination) (es : CombinationCounts)
    → ((k : Combination) → listed_count_of_combination k es ≡ cell_count_of_combination k cells)
    → listed_with p es ≡ count_by p cells
listed-with p [] es same = nothing p es same
listed-with p (c ∷ cells) es same =
    let mine : ◌≡◌ {A = ℕ} (cond (eq_by_cmp combination_cmp c c) 1 0) 1 = ap (λ b. cond b 1 0) (same-itself c) in
    let some : 0 < listed_count_of_combination c es = omega (arith, same c, count_cons c c cells, mine) in
    let others : (k : Combination) → listed_count_of_combination k (one_less c es) ≡ cell_count_of_combination k cells =
    λ k. omega (arith, one-less (eq_by_cmp combination_cmp k) c es some, same k, count_cons k c cells) in
    omega (
      arith,
      one-less p c es some,
      listed-with p cells (one_less c es) others,
      sum_by-cons (λ (x : Combination). cond (p x) 1 0) c cells,
    )

-- ---- the counts of a table

none-behind : (x : Combination) (es : CombinationCounts) → AllByRecursion (λ y. combination_cmp x y ≡ Less) (keys_of es)
    → listed_count_of_combination x es ≡ 0
none-behind x [] above = refl
none-behind x (e ∷ es) above =
    let here : entry_count_of_combination x e ≡ 0 = ap (λ o. cond (is_eq o) e.1 0) above.0 in
    omega (arith, sum_by-cons (entry_count_of_combination x) e es, here, none-behind x es above.1)

found-listed : (k : Combination) (es : CombinationCounts) → IsStrictlySortedBy combination_cmp (keys_of es)
    → unwrap_or (find combination_cmp k es) 0 ≡ listed_count_of_combination k es
unfolding IsStrictlySortedBy
found-listed k [] up = refl
found-listed k (e ∷ es) up =
    by up.0 (found-listed k es up.1) (eq_by_cmp combination_cmp k e.0) refl
    ∙ sym (sum_by-cons (entry_count_of_combination k) e es)
  where
    by : AllByRecursion (λ y. combination_cmp e.0 y ≡ Less) (keys_of es)
        → unwrap_or (find combination_cmp k es) 0 ≡ listed_count_of_combination k es
        → (b : Bool) → eq_by_cmp combination_cmp k e.0 ≡ b
        → unwrap_or (cond b (Some e.1) (find combination_cmp k es)) 0 ≡ cond b e.1 0 + listed_count_of_combination k es
    by above others true is =
        let none : listed_count_of_combination k es ≡ 0 =
        ap (λ x. listed_count_of_combination x es) (combination_cmp-exact k e.0 (is_equal _ is))
        ∙ none-behind e.0 es above in
        omega (arith, none)
    by above others false is = others ∙ sym (zero-add (listed_count_of_combination k es))

found-or : (n : ℕ) → unwrap_or (found n) 0 ≡ n
found-or zero = refl
found-or (suc n) = refl

-- a table has the counts of the cells that are not left out
pub listed-table : (skip : Skip) (cells : List Combination) (k : Combination)
    → listed_count_of_combination k (table_of_cells skip cells) ≡ cell_count_of_combination k (kept_cells skip cells)
listed-table skip cells k =
    let tally = combination_counts-IsTally (kept_cells skip cells) in
    sym (found-listed k (table_of_cells skip cells) tally.ascending)
    ∙ ap (λ o. unwrap_or o 0) ((IsFound-from (kept_cells skip cells) (table_of_cells skip cells) tally).finds k)
    ∙ found-or (cell_count_of_combination k (kept_cells skip cells))
