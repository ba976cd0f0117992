use Rattle.std.proofs.Common.{◌≡◌, ◌<◌, ℕ, suc, length, get_or}
use Rattle.cell_join_tiles.specs.Beginnings.{begun_clump_count_before_row}
use Rattle.cell_join_tiles.proofs.row_labels.begun_clump_counts_up_to_rows.Given as goal

abbrev pub invariant-loop-row : goal.invariant-loop-row
invariant-loop-row l = record {
  long : length l.ends.items ≡ l.row;
  end : l.end ≡ begun_clump_count_before_row l.begun l.row;
  each : (i : ℕ) → i < l.row → get_or l.ends.items i 0 ≡ begun_clump_count_before_row l.begun (suc i);
}
