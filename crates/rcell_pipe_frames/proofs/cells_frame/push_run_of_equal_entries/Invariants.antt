use Rattle.std.proofs.Common.{replicate, flat_map}
use Rattle.cell_core_devices.specs.Blocks.{IsTextAppendedThroughBlock}
use Rattle.rcell_pipe_frames.specs.parts.CellEntries.{entry_part_bytes}
use Rattle.rcell_pipe_frames.proofs.cells_frame.push_run_of_equal_entries.Given as goal

abbrev pub invariant-loop-entry : goal.invariant-loop-entry
invariant-loop-entry g l = IsTextAppendedThroughBlock g.W.Sink.taken g.W.Sink.faults l.fn.out l.fn.block (flat_map
    (entry_part_bytes l.part l.selection.shelf.now.maps l.selection.picks.now)
    (replicate l.entry l.cells)) l.out l.block
