use Rattle.std.proofs.Common.{◌≡◌, ◌+◌, ◌*◌, ◌≤◌, [], ◌∷◌}
use Rattle.cell_stats_combinations.specs.Combinations.{Combination, all_combinations}
use Rattle.cell_stats_combinations.specs.LeftOut.{kept_cells}
use Rattle.cell_stats_counts.specs.Counts.{cell_count_of_combination}
use Rattle.cell_stats_counts.specs.parts.ByteCounts.{count_added_by_byte_cell, sum_over_counted_bytes}
use Rattle.cell_stats_counts.specs.parts.CountsUnderWay.{counted_cell_count_of_combination}
use Rattle.cell_stats_counts.specs.parts.CountsUnderWay.{CanContinueCountingCombinations}
use Rattle.cell_stats_counts.proofs.alone.count_cells_of_one_map.Given as goal

abbrev pub invariant-loop-row : goal.invariant-loop-row
invariant-loop-row l = record {
  counted : (k : Combination)
      → counted_cell_count_of_combination 1 k l.places l.entries.items + sum_over_counted_bytes
      (count_added_by_byte_cell l.skip k) 0 l.counts
      ≡ cell_count_of_combination k (kept_cells l.skip (all_combinations l.shelf.maps (l.pick
      ∷ []) l.row l.shelf.region.cols));
  few : sum_over_counted_bytes (λ b. 1) 0 l.counts ≤ l.row * l.shelf.region.cols;
  going : CanContinueCountingCombinations 1 l.places l.entries.items;
}
