use Rattle.std.proofs.Common.{◌≡◌, ◌+◌, ◌<◌, ℕ, length, get_or}
use Rattle.cell_join_tiles.specs.Beginnings.{begun_clump_count_above_in_tiles}
use Rattle.cell_join_tiles.specs.Values.{values_of_tile_borders}
use Rattle.cell_join_tiles.specs.parts.RowMarks.{begun_clump_counts_of_tile_row}
use Rattle.cell_join_tiles.proofs.tile_rows.first_clump_labels_by_row.Given as goal

abbrev pub invariant-loop-row : goal.invariant-loop-row
invariant-loop-row l = record {
  long : length l.firsts.items ≡ l.row;
  label : l.label ≡ l.base + begun_clump_count_above_in_tiles (begun_clump_counts_of_tile_row
      (values_of_tile_borders l.tiles)) l.row;
  each : (i : ℕ) → i < l.row → get_or l.firsts.items i 0 ≡ l.base + begun_clump_count_above_in_tiles
      (begun_clump_counts_of_tile_row (values_of_tile_borders l.tiles)) i;
}
