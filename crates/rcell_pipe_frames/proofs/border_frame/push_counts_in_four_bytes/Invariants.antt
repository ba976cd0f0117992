use Rattle.std.proofs.Common.{take, flat_map}
use Rattle.std.specs.Int.{w32, to_le_bytes}
use Rattle.cell_core_devices.specs.Blocks.{IsTextAppendedThroughBlock}
use Rattle.rcell_pipe_frames.proofs.border_frame.push_counts_in_four_bytes.Given as goal

abbrev pub invariant-loop-count : goal.invariant-loop-count
invariant-loop-count g l = IsTextAppendedThroughBlock g.W.Sink.taken g.W.Sink.faults l.fn.out l.fn.block
    (flat_map (to_le_bytes w32) (take l.count-index l.counts)) l.out l.block
