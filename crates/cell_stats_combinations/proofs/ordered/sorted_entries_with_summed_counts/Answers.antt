use Rattle.std.proofs.Common.{◌≡◌, ◌<◌, ◌^◌, ℕ, take, arith, sym, ap, subst, ◌∙◌}
use Rattle.std.proofs.lemmas.List.{with_items_is}
use Rattle.std.proofs.lemmas.List.Sorted.{All-permutation, sum_by-IsPermutation}
use Rattle.cell_stats_combinations.specs.Combinations.{Combination}
use Rattle.cell_stats_combinations.specs.Listed.{CombinationCounts, entry_count_of_combination}
use Rattle.cell_stats_combinations.specs.Listed.{listed_count_of_combination, NoEntryCountIsZero}
use Rattle.std.specs.List.Sorted.{IsPermutation}
use Rattle.cell_stats_combinations.proofs.ordered.sorted_entries_with_summed_counts.Goals as goal

sums : (es fs gs : CombinationCounts) → IsPermutation es fs → gs ≡ fs → (k : Combination)
    → listed_count_of_combination k gs ≡ listed_count_of_combination k es
sums es fs gs moved same k = ap (listed_count_of_combination k) same
    ∙ sum_by-IsPermutation (entry_count_of_combination k) es fs moved

low : (n : ℕ) {m : ℕ} → n ≡ m → m < 2 ^ 64 → n < 2 ^ 64
low n same h = omega arith

pub add_up_entries_of_combinations-kept-requires-clause-fits :
    goal.add_up_entries_of_combinations-kept-requires-clause-fits
add_up_entries_of_combinations-kept-requires-clause-fits c = λ k.
    low (listed_count_of_combination k c.as_mut_slice.result.now)
    (sums _ _ _ c.sort_unstable.ensures.permutation c.as_mut_slice.ensures.value k) (c.requires.fits k)

pub add_up_entries_of_combinations-kept-requires-clause-no_zero :
    goal.add_up_entries_of_combinations-kept-requires-clause-no_zero
add_up_entries_of_combinations-kept-requires-clause-no_zero c =
    subst NoEntryCountIsZero (sym c.as_mut_slice.ensures.value) (All-permutation (λ (e : Combination × ℕ). 0 < e.1) c.args.entries.items _
    c.sort_unstable.ensures.permutation c.requires.no_zero)

pub returns-clause-counts : goal.returns-clause-counts
returns-clause-counts c = λ k.
    let joined = with_items_is c.sort_unstable.new.self c.add_up_entries_of_combinations-kept.new.entries (c.add_up_entries_of_combinations-kept.auto.entries ∙ c.as_mut_slice.ensures.len) in
    ap (listed_count_of_combination k) (c.truncate.ensures.items
    ∙ ap (take c.add_up_entries_of_combinations-kept.result) joined)
    ∙ c.add_up_entries_of_combinations-kept.ensures.counts k
    ∙ sums _ _ _ c.sort_unstable.ensures.permutation c.as_mut_slice.ensures.value k
