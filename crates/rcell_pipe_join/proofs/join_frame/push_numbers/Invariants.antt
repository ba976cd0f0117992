use Rattle.std.proofs.Common.{take, flat_map, unwrap_or}
use Rattle.cell_core_devices.specs.Blocks.{IsTextAppendedThroughBlock}
use Rattle.rcell_pipe_frames.specs.FrameBytes.{eight_bytes_of_number}
use Rattle.rcell_pipe_join.proofs.join_frame.push_numbers.Given as goal

abbrev pub invariant-loop-number : goal.invariant-loop-number
invariant-loop-number g l = IsTextAppendedThroughBlock g.W.Sink.taken g.W.Sink.faults l.fn.out l.fn.block
    (flat_map (λ number. eight_bytes_of_number (unwrap_or number 0)) (take l.number-index l.numbers)) l.out l.block
