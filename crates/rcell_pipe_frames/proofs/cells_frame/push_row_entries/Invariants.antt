use Rattle.std.proofs.Common.{◌-◌, map}
use Rattle.std.specs.List.{range_with_len}
use Rattle.cell_core_devices.specs.Blocks.{IsTextAppendedThroughBlock}
use Rattle.cell_stats_combinations.specs.Combinations.{combination_at_row_and_column}
use Rattle.rcell_pipe_frames.specs.parts.CellEntries.{bytes_of_kept_entry_parts}
use Rattle.cell_stats.proofs.CellsLemmas.{StandsAt}
use Rattle.rcell_pipe_frames.proofs.cells_frame.push_row_entries.Given as goal

abbrev pub invariant-loop-col : goal.invariant-loop-col
invariant-loop-col g l = record {
  appends : IsTextAppendedThroughBlock g.W.Sink.taken g.W.Sink.faults l.fn.out l.fn.block
      (bytes_of_kept_entry_parts l.part l.selection (map
      (combination_at_row_and_column l.selection.shelf.now.maps l.selection.picks.now l.row)
      (range_with_len 0 l.col))) l.out l.block;
  walk : StandsAt l.selection.shelf.now l.selection.picks.now l.row l.cols l.col l.count l.cursors l.cells;
}

abbrev pub decreases-loop-col : goal.decreases-loop-col
decreases-loop-col g l = l.cols - l.col
