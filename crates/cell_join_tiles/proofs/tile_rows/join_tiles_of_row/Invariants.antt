use Rattle.std.proofs.Common.{◌≡◌, ◌++◌, length, map}
use Rattle.std.specs.List.{range_with_len}
use Rattle.cell_join_tiles.specs.Values.{values_of_tile_borders}
use Rattle.cell_join_tiles.specs.parts.RowLabels.{AreFirstLabelsOfTileInRow, labels_of_clumps_in_tile}
use Rattle.cell_join_tiles.specs.parts.RowMarks.{AddsLabelPairs, labelled_last_column_on_the_left}
use Rattle.cell_join_tiles.specs.parts.RowMarks.{begun_clump_counts_of_tile_row, labelled_first_rows_of_tiles}
use Rattle.cell_join_tiles.specs.parts.RowMarks.{labelled_last_rows_of_tiles, label_pairs_within_tile_row}
use Rattle.cell_join_tiles.specs.parts.Spans.{TileLabelRangesFitInSixtyFourBits, labels_of_tile_ranges}
use Rattle.cell_join_tiles.proofs.tile_rows.join_tiles_of_row.Given as goal

abbrev pub invariant-loop-col : goal.invariant-loop-col
invariant-loop-col l = record {
  long : length l.line ≡ l.rows;
  firsts : AreFirstLabelsOfTileInRow l.base (begun_clump_counts_of_tile_row
      (values_of_tile_borders l.row)) l.col l.line;
  pairs : AddsLabelPairs l.fn.from.pairs.items l.joined.pairs.items (label_pairs_within_tile_row l.joining l.base
      (values_of_tile_borders l.row) l.col);
  first : l.joined.first.items ≡ labelled_first_rows_of_tiles l.base (values_of_tile_borders l.row) l.col;
  last : l.joined.last.items ≡ labelled_last_rows_of_tiles l.base (values_of_tile_borders l.row) l.col;
  right : l.joined.right.items ≡ labelled_last_column_on_the_left l.base (values_of_tile_borders l.row) l.col;
  tiles : labels_of_tile_ranges l.joined.tiles.items ≡ labels_of_tile_ranges l.fn.from.tiles.items
      ++ map (labels_of_clumps_in_tile l.base (begun_clump_counts_of_tile_row (values_of_tile_borders l.row)))
      (range_with_len 0 l.col);
  fit : TileLabelRangesFitInSixtyFourBits l.joined.tiles.items;
}
