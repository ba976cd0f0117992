use Rattle.std.proofs.Common.{◌≡◌, ◌+◌, ◌-◌, ◌<◌, ◌≤◌, length, map}
use Rattle.cell_stats_combinations.specs.Combinations.{Combination}
use Rattle.cell_stats_combinations.specs.Listed.{listed_count_of_combination, NoEntryCountIsZero}
use Rattle.cell_stats_combinations.specs.PairPlaces.{count_of_combination_in_slots}
use Rattle.cell_stats_counts.specs.parts.RowCells.{combination_cell_count_from_column}
use Rattle.cell_stats_counts.specs.parts.Alone.{combination_of_one_cell}
use Rattle.cell_stats_counts.proofs.varied.count_cells_one_by_one.Given as goal

abbrev pub invariant-loop-col : goal.invariant-loop-col
invariant-loop-col l = record {
  counts : (k : Combination) → count_of_combination_in_slots 1 k l.table.places.items + listed_count_of_combination k
      l.entries.items
      + combination_cell_count_from_column l.skip k (map combination_of_one_cell l.cells) l.col
      ≡ count_of_combination_in_slots 1 k l.fn.table.places.items + listed_count_of_combination k l.fn.entries.items
      + combination_cell_count_from_column l.skip k (map combination_of_one_cell l.cells) 0;
  few : (k : Combination) → count_of_combination_in_slots 1 k l.table.places.items + listed_count_of_combination k
      l.entries.items
      ≤ count_of_combination_in_slots 1 k l.fn.table.places.items + listed_count_of_combination k l.fn.entries.items
      + l.col;
  some : 0 < length l.table.places.items;
  no_zero : NoEntryCountIsZero l.entries.items;
  within : l.col ≤ length l.cells;
}

abbrev pub decreases-loop-col : goal.decreases-loop-col
decreases-loop-col l = length l.cells - l.col
