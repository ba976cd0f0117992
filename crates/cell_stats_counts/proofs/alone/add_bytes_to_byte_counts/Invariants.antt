use Rattle.std.proofs.Common.{◌≡◌, ◌+◌, ℕ, take, sum_by, length}
use Rattle.cell_stats_counts.specs.parts.ByteCounts.{sum_over_counted_bytes}
use Rattle.cell_stats_counts.proofs.alone.add_bytes_to_byte_counts.Given as goal

abbrev pub invariant-loop-byte : goal.invariant-loop-byte
invariant-loop-byte l = record {
  sums : (f : ℕ → ℕ) → sum_over_counted_bytes f 0 l.counts ≡ sum_over_counted_bytes f 0 l.fn.counts + sum_by f
      (take l.byte-index l.bytes);
  wide : length l.counts ≡ 256;
}
