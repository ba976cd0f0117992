-- An ascending list with a larger combination appended.
use Rattle.std.proofs.Common.{◌≡◌, ℕ, suc, [], ◌∷◌, ◌++◌, All, length, get_or, map, ap, arith}
use Rattle.std.proofs.lemmas.List.Elements.{All-push}
use Rattle.std.specs.List.{AllByRecursion}
use Rattle.std.specs.List.Sorted.{IsStrictlySortedBy}
use Rattle.std.specs.Ordering.{ordering_then}
use Rattle.std.specs.declared.cmp.Ordering.TheVariants.{Less, Equal}
use Rattle.cell_core.specs.Grid.{CellValue}
use Rattle.cell_core_values.specs.Cell.{compare_cells_null_last}
use Rattle.cell_stats_combinations.specs.Combinations.{Combination, combination_cmp, combination_cmp_total}
use Rattle.cell_stats_combinations.specs.Listed.{CombinationCounts, CombinationsAreAscending}
use Rattle.cell_stats_counts.specs.parts.Alone.{combination_of_one_cell}
use Rattle.cell_stats_counts.specs.parts.RisingEnds.{EntriesAscendUpToCategory}

-- a combination above the last entry is above the first one
further : (x : Combination) (es : CombinationCounts) (e : Combination × ℕ)
    → AllByRecursion (λ y. combination_cmp x y ≡ Less) (map (λ e. e.0) es)
    → combination_cmp x e.0 ≡ Less → AllByRecursion (λ y. combination_cmp x y ≡ Less) (map (λ e. e.0) (es ++ e ∷ []))
further x [] e all last = (last, tt)
further x (y ∷ es) e all last = (all.0, further x es e all.1 last)

pub ascending-push : (es : CombinationCounts) (e : Combination × ℕ) → CombinationsAreAscending es
    → All (λ x. combination_cmp x.0 e.0 ≡ Less) es → CombinationsAreAscending (es ++ e ∷ [])
unfolding IsStrictlySortedBy
ascending-push [] e up all = (tt, tt)
ascending-push (x ∷ es) e up all = (
  further x.0 es e up.0 (all 0 x (omega arith)),
  ascending-push es e up.1 (λ i d within. all (suc i) d (omega (arith, within))),
)

first-less : (a b : CellValue) → compare_cells_null_last a b ≡ Less → combination_cmp (combination_of_one_cell a)
    (combination_of_one_cell b) ≡ Less
first-less a b less = ap (λ o. ordering_then o Equal) less

-- a category above all others becomes the last one
pub ascends-push : (last : CellValue) (n : ℕ) (es : CombinationCounts) → CombinationsAreAscending es
    → All (λ e. combination_cmp e.0 (combination_of_one_cell last) ≡ Less) es
    → EntriesAscendUpToCategory last (es ++ (combination_of_one_cell last, n) ∷ [])
ascends-push last n es up all = record {
  ascending = ascending-push es (combination_of_one_cell last, n) up all;
  below = λ cell less. All-push (λ (e : Combination × ℕ). combination_cmp e.0 (combination_of_one_cell cell)
      ≡ Less) es (combination_of_one_cell last, n)
      (λ i d within. combination_cmp_total.trans (get_or es i d).0 (combination_of_one_cell last)
      (combination_of_one_cell cell) (all i d within)
      (first-less last cell less))
      (first-less last cell less);
}

-- an empty list ascends
pub ascends-none : (last : CellValue) (es : CombinationCounts) → length es ≡ 0 → EntriesAscendUpToCategory last es
unfolding IsStrictlySortedBy
ascends-none last [] none = record {
  ascending = tt;
  below = λ cell less i d within. absurd (omega (arith, within));
}
ascends-none last (e ∷ es) none = absurd (omega (arith, none))
