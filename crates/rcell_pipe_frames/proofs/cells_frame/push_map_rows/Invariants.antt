use Rattle.std.proofs.Common.{◌≡◌, length}
use Rattle.cell_core_devices.specs.Blocks.{IsTextAppendedThroughBlock}
use Rattle.cell_stats_combinations.specs.Combinations.{all_combinations}
use Rattle.rcell_pipe_frames.specs.parts.CellEntries.{bytes_of_kept_entry_parts}
use Rattle.rcell_pipe_frames.proofs.cells_frame.push_map_rows.Given as goal

abbrev pub invariant-loop-row : goal.invariant-loop-row
invariant-loop-row g l = record {
  appends : IsTextAppendedThroughBlock g.W.Sink.taken g.W.Sink.faults l.fn.out l.fn.block
      (bytes_of_kept_entry_parts l.part l.selection
      (all_combinations l.selection.shelf.now.maps l.selection.picks.now l.row l.selection.shelf.now.region.cols)) l.out l.block;
  cursors : length l.cursors ≡ length l.selection.picks.now;
  cells : length l.cells ≡ length l.selection.picks.now;
}
