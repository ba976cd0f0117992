use Rattle.std.proofs.Common.{◌≡◌, ◌+◌, ◌-◌, ◌<◌, ◌≤◌, length}
use Rattle.cell_stats_combinations.specs.Combinations.{Combination}
use Rattle.cell_stats_combinations.specs.Listed.{listed_count_of_combination, NoEntryCountIsZero}
use Rattle.cell_stats_combinations.specs.PairPlaces.{count_of_combination_in_slots}
use Rattle.cell_stats_counts.specs.parts.RowCells.{combinations_of_two_rows, combination_cell_count_from_column}
use Rattle.cell_stats_counts.proofs.varied.count_varied_row_of_two_maps.Given as goal

abbrev pub invariant-loop-col : goal.invariant-loop-col
invariant-loop-col l = record {
  counts : (k : Combination) → count_of_combination_in_slots 2 k l.table.places.items + listed_count_of_combination k
      l.entries.items
      + combination_cell_count_from_column l.skip k (combinations_of_two_rows l.first l.second) l.col
      ≡ count_of_combination_in_slots 2 k l.fn.table.places.items + listed_count_of_combination k l.fn.entries.items
      + combination_cell_count_from_column l.skip k (combinations_of_two_rows l.first l.second) 0;
  few : (k : Combination) → count_of_combination_in_slots 2 k l.table.places.items + listed_count_of_combination k
      l.entries.items
      ≤ count_of_combination_in_slots 2 k l.fn.table.places.items + listed_count_of_combination k l.fn.entries.items
      + l.col;
  some : 0 < length l.table.places.items;
  no_zero : NoEntryCountIsZero l.entries.items;
  within : l.col ≤ length l.first;
}

abbrev pub decreases-loop-col : goal.decreases-loop-col
decreases-loop-col l = length l.first - l.col
