use Rattle.std.proofs.Common.{take_all}
use Rattle.rcell_pipe_frames.specs.FrameBytes.{patch_bytes}
use Rattle.rcell_pipe_frames.proofs.AppendLemmas.{appends_more}
use Rattle.rcell_pipe_frames.proofs.patches_frame.push_each_patch.Goals as goal

pub loop-patch-preserved : goal.loop-patch-preserved
loop-patch-preserved g c =
    appends_more patch_bytes c.args.patches.now c.loop-patch.patch-index _ c.loop-patch-test.true c.loop-patch.invariant
    c.push_patch_measures.ensures

pub returns : goal.returns
returns g c = rw (take_all c.loop-patch.patch-index c.args.patches.now c.loop-patch-test.false) at c.loop-patch.invariant
