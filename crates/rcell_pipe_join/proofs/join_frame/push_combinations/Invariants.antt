use Rattle.std.proofs.Common.{take, flat_map}
use Rattle.cell_core_devices.specs.Blocks.{IsTextAppendedThroughBlock}
use Rattle.rcell_pipe_frames.specs.FrameBytes.{four_bytes_of_cell}
use Rattle.rcell_pipe_join.proofs.join_frame.push_combinations.Given as goal

abbrev pub invariant-loop-entry : goal.invariant-loop-entry
invariant-loop-entry g l = IsTextAppendedThroughBlock g.W.Sink.taken g.W.Sink.faults l.fn.out l.fn.block
    (flat_map (λ entry. flat_map four_bytes_of_cell entry.0) (take l.entry-index l.entries)) l.out l.block
