use Rattle.std.proofs.Common.{take, flat_map}
use Rattle.cell_core_devices.specs.Blocks.{IsTextAppendedThroughBlock}
use Rattle.rcell_pipe_frames.specs.FrameBytes.{patch_bytes}
use Rattle.rcell_pipe_frames.proofs.patches_frame.push_each_patch.Given as goal

abbrev pub invariant-loop-patch : goal.invariant-loop-patch
invariant-loop-patch g l = IsTextAppendedThroughBlock g.W.Sink.taken g.W.Sink.faults l.fn.out l.fn.block
    (flat_map patch_bytes (take l.patch-index l.patches)) l.out l.block
