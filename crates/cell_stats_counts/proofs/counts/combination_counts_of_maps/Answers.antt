use Rattle.std.proofs.Common.{◌≡◌, ℕ, ◌<◌, ◌+◌, ◌^◌, ◌∙◌, arith}
use Rattle.cell_stats_combinations.specs.Listed.{listed_count_of_combination}
use Rattle.cell_stats_counts.proofs.RunCountLemmas.{few-alone}
use Rattle.cell_stats_counts.proofs.counts.combination_counts_of_maps.Goals as goal

fit : {n : ℕ} → n < 2 ^ 63 → n < 2 ^ 64
fit small = omega arith

-- the list holds what was listed before, what was side by side and what was in the table
brought : (listed gathered paired : ℕ) {more all : ℕ} → more ≡ listed + gathered → all ≡ more + paired
    → all ≡ paired + listed + gathered
brought listed gathered paired first second = omega arith

pub sorted_entries_with_summed_counts-requires-clause-fits : goal.sorted_entries_with_summed_counts-requires-clause-fits
sorted_entries_with_summed_counts-requires-clause-fits c = λ k.
    let shelf = c.args.shelf.now in
    let ensures = c.in_ok-count_cells_of_all_rows.ensures in
    fit (few-alone c.args.skip k shelf.maps c.args.picks.now shelf.region.rows shelf.region.cols _
    ensures.region.rows_most ensures.region.cols_most
    (brought (listed_count_of_combination k c.count_cells_of_all_rows.new.entries.items) _ _
    (c.in_ok-push_sorted_combinations.ensures.ok k)
    (c.in_ok-push_sorted_pair_entries.ensures.ok k)
    ∙ ensures.ok k))

pub returns : goal.returns
returns c =
    record {
      ascending = c.sorted_entries_with_summed_counts.ensures.ascending;
      counts = λ k.
          c.sorted_entries_with_summed_counts.ensures.counts k
          ∙ brought (listed_count_of_combination k c.count_cells_of_all_rows.new.entries.items) _ _
          (c.in_ok-push_sorted_combinations.ensures.ok k)
          (c.in_ok-push_sorted_pair_entries.ensures.ok k)
          ∙ c.in_ok-count_cells_of_all_rows.ensures.ok k;
      no_zero = c.sorted_entries_with_summed_counts.ensures.no_zero;
    }
