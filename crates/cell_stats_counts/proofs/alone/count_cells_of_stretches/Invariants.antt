use Rattle.std.proofs.Common.{◌≡◌, ◌+◌, ◌^◌, ◌<◌, length, map}
use Rattle.cell_core.specs.Runs.{cells_of_runs}
use Rattle.cell_stats_combinations.specs.Combinations.{Combination}
use Rattle.cell_stats_counts.specs.Counts.{cell_count_of_combination}
use Rattle.cell_stats_counts.specs.parts.Alone.{combination_of_one_cell}
use Rattle.cell_stats_counts.specs.parts.CountsUnderWay.{counted_cell_count_of_combination}
use Rattle.cell_stats_counts.specs.parts.CountsUnderWay.{CanContinueCountingCombinations}
use Rattle.cell_stats_combinations.specs.LeftOut.{kept_cells}
use Rattle.cell_stats_counts.proofs.alone.count_cells_of_stretches.Given as goal

abbrev pub invariant-loop-cell : goal.invariant-loop-cell
invariant-loop-cell l = record {
  counted : (k : Combination) → counted_cell_count_of_combination 1 k l.places l.entries.items
      + cell_count_of_combination k (kept_cells l.skip (map combination_of_one_cell (cells_of_runs l.cell-iterator)))
      ≡ counted_cell_count_of_combination 1 k l.fn.places l.fn.entries.items + cell_count_of_combination k
      (kept_cells l.skip (map combination_of_one_cell (cells_of_runs l.fn.stretches)));
  room : (k : Combination) → counted_cell_count_of_combination 1 k l.places l.entries.items + length
      (cells_of_runs l.cell-iterator) < 2 ^ 64;
  going : CanContinueCountingCombinations 1 l.places l.entries.items;
}
