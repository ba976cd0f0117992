use Rattle.std.proofs.Common.{◌≡◌, ◌+◌, take}
use Rattle.cell_stats_combinations.specs.Combinations.{Combination}
use Rattle.cell_stats_combinations.specs.Listed.{listed_count_of_combination, NoEntryCountIsZero}
use Rattle.cell_stats_combinations.specs.SideBySide.{counted_combinations_of_flat_list}
use Rattle.cell_stats_combinations.proofs.gathered.push_counted_combinations.Given as goal

abbrev pub invariant-loop-at : goal.invariant-loop-at
invariant-loop-at l = record {
  counted : (k : Combination) → listed_count_of_combination k l.entries.items
      ≡ listed_count_of_combination k l.fn.entries.items + listed_count_of_combination k
      (take l.at (counted_combinations_of_flat_list l.width l.cells l.counts));
  no_zero : NoEntryCountIsZero l.entries.items;
}
