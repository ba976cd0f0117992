use Rattle.std.proofs.Common.{◌≡◌, ◌+◌}
use Rattle.cell_stats_combinations.specs.Combinations.{Combination}
use Rattle.cell_stats_combinations.specs.Listed.{listed_count_of_combination}
use Rattle.cell_stats_combinations.specs.SideBySide.{counted_combinations_of_flat_list, count_of_counted_combination}
use Rattle.cell_stats_combinations.specs.SideBySide.{HasOneCombinationPerCount}
use Rattle.cell_stats_combinations.proofs.gathered.sorted_combination_table.Given as goal

abbrev pub invariant-loop-at : goal.invariant-loop-at
invariant-loop-at l = record {
  counted : (k : Combination) → count_of_counted_combination l.width k l.to + listed_count_of_combination k
      (counted_combinations_of_flat_list l.width l.cells l.counts)
      ≡ count_of_counted_combination l.width k l.fn.from;
  side : HasOneCombinationPerCount l.width l.to;
}
