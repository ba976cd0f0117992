use Rattle.std.specs.Prelude.{flat_map}
use Rattle.std.specs.List.{range_with_len}
use Rattle.cell_join_tiles.specs.SeamLines.{label_pairs_of_opposite_cells}
use Rattle.cell_join_tiles.specs.parts.RowMarks.{AddsLabelPairs}
use Rattle.cell_join_tiles.proofs.meetings.add_label_pairs_of_adjacent_lines.Given as goal

abbrev pub invariant-loop-place : goal.invariant-loop-place
invariant-loop-place l = AddsLabelPairs l.fn.pairs.items l.pairs.items
    (flat_map (label_pairs_of_opposite_cells l.joining l.one l.other) (range_with_len 0 l.place))
