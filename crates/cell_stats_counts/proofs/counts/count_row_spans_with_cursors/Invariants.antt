use Rattle.std.proofs.Common.{◌≡◌, ◌+◌, ◌-◌, ◌<◌, ◌≤◌, ◌++◌, length, map, drop, All}
use Rattle.std.specs.List.{range_with_len}
use Rattle.cell_stats_combinations.specs.Combinations.{Combination, all_combinations, combination_at_row_and_column}
use Rattle.cell_stats_counts.specs.Counts.{cell_count_of_combination}
use Rattle.cell_stats_combinations.specs.Cursors.{to_come, CursorHasNoEmptyLaterRun, row_of_map_at_place}
use Rattle.cell_stats_counts.specs.parts.CountsUnderWay.{counted_cell_count_of_combination}
use Rattle.cell_stats_counts.specs.parts.CountsUnderWay.{CanContinueCountingCombinations}
use Rattle.cell_stats_combinations.specs.LeftOut.{kept_cells}
use Rattle.cell_stats_counts.proofs.counts.count_row_spans_with_cursors.Given as goal

abbrev pub invariant-loop-col : goal.invariant-loop-col
invariant-loop-col l = record {
  counted : (k : Combination) → counted_cell_count_of_combination
      (length l.selection.picks.now) k l.places l.entries.items
      ≡ cell_count_of_combination k (kept_cells l.selection.skip
      (all_combinations l.selection.shelf.now.maps l.selection.picks.now l.row l.selection.shelf.now.region.cols
      ++ map (combination_at_row_and_column l.selection.shelf.now.maps l.selection.picks.now l.row)
      (range_with_len 0 l.col)));
  going : CanContinueCountingCombinations (length l.selection.picks.now) l.places l.entries.items;
  to_come : map to_come l.cursors ≡ map (λ p. drop l.col (row_of_map_at_place l.selection.shelf.now.maps l.row p))
      l.selection.picks.now;
  ready : All CursorHasNoEmptyLaterRun l.cursors;
  cells : l.cells ≡ map (λ c. c.cell) l.cursors;
  least : All (λ c. l.count ≤ c.left) l.cursors;
  some : l.col < l.cols → 0 < l.count;
  most : l.col + l.count ≤ l.cols;
}

abbrev pub decreases-loop-col : goal.decreases-loop-col
decreases-loop-col l = l.cols - l.col
