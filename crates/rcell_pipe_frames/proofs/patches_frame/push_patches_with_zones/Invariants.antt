use Rattle.std.proofs.Common.{take, flat_map}
use Rattle.std.specs.List.{zip}
use Rattle.cell_core_devices.specs.Blocks.{IsTextAppendedThroughBlock}
use Rattle.rcell_pipe_frames.specs.FrameBytes.{zoned_patch_bytes}
use Rattle.rcell_pipe_frames.proofs.patches_frame.push_patches_with_zones.Given as goal

abbrev pub invariant-loop-i : goal.invariant-loop-i
invariant-loop-i g l = IsTextAppendedThroughBlock g.W.Sink.taken g.W.Sink.faults l.fn.out l.fn.block
    (flat_map zoned_patch_bytes (take l.i (zip l.patches l.zones))) l.out l.block
