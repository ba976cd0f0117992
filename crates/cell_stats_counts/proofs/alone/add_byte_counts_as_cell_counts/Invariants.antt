use Rattle.std.proofs.Common.{◌≡◌, ◌+◌, ◌^◌, ◌<◌, drop}
use Rattle.cell_stats_combinations.specs.Combinations.{Combination}
use Rattle.cell_stats_counts.specs.parts.ByteCounts.{count_added_by_byte_cell, sum_over_counted_bytes}
use Rattle.cell_stats_counts.specs.parts.CountsUnderWay.{counted_cell_count_of_combination}
use Rattle.cell_stats_counts.specs.parts.CountsUnderWay.{CanContinueCountingCombinations}
use Rattle.cell_stats_counts.proofs.alone.add_byte_counts_as_cell_counts.Given as goal

abbrev pub invariant-loop-byte : goal.invariant-loop-byte
invariant-loop-byte l = record {
  counted : (k : Combination)
      → counted_cell_count_of_combination 1 k l.places l.entries.items + sum_over_counted_bytes
      (count_added_by_byte_cell l.skip k) l.byte (drop l.byte l.counts)
      ≡ counted_cell_count_of_combination 1 k l.fn.places l.fn.entries.items + sum_over_counted_bytes
      (count_added_by_byte_cell l.skip k) 0 l.counts;
  room : (k : Combination)
      → counted_cell_count_of_combination 1 k l.places l.entries.items + sum_over_counted_bytes (λ b. 1) l.byte
      (drop l.byte l.counts) < 2 ^ 64;
  going : CanContinueCountingCombinations 1 l.places l.entries.items;
}
