use Rattle.std.proofs.Common.{◌≡◌, ◌++◌, ℕ, List, flat_map}
use Rattle.cell_core_devices.specs.Blocks.{IsTextAppendedThroughBlock}
use Rattle.cell_patches.specs.declared.patch.Patch.{Patch}
use Rattle.rcell_pipe_join.specs.JoinFrames.{numbered_patch_bytes}
use Rattle.rcell_pipe_join.proofs.join_frame.push_numbered_patches.Given as goal

abbrev pub invariant-loop-number : goal.invariant-loop-number
invariant-loop-number g l = (written : List (ℕ × Patch)) × (written ++ l.number-iterator ≡ l.patches.entries)
    × IsTextAppendedThroughBlock g.W.Sink.taken g.W.Sink.faults l.fn.out l.fn.block
    (flat_map numbered_patch_bytes written) l.out l.block
