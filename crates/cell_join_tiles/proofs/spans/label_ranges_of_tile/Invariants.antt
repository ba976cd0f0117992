use Rattle.std.proofs.Common.{◌≡◌, ◌++◌}
use Rattle.std.specs.Prelude.{All, flat_map}
use Rattle.std.specs.List.{range_with_len}
use Rattle.cell_join_tiles.specs.parts.Spans.{LabelRangeFitsInSixtyFourBits, labels_of_ranges, labels_of_range}
use Rattle.cell_join_tiles.proofs.RowLabelLemmas.{row_labels}
use Rattle.cell_join_tiles.proofs.spans.label_ranges_of_tile.Given as goal

abbrev pub invariant-loop-row : goal.invariant-loop-row
invariant-loop-row l = record {
  from : LabelRangeFitsInSixtyFourBits l.from;
  each : All LabelRangeFitsInSixtyFourBits l.spans.items;
  labels : labels_of_ranges l.spans.items ++ labels_of_range l.from
      ≡ flat_map (row_labels l.firsts l.begun) (range_with_len 0 l.row);
}
