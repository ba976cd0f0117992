use Rattle.std.proofs.Common.{arith, take_all}
use Rattle.std.specs.List.{zip}
use Rattle.std.proofs.lemmas.Slice.Zip.{length-zip}
use Rattle.rcell_pipe_frames.specs.FrameBytes.{zoned_patch_bytes}
use Rattle.rcell_pipe_frames.proofs.AppendLemmas.{appends_pair}
use Rattle.rcell_pipe_frames.proofs.patches_frame.push_patches_with_zones.Goals as goal

pub loop-i-preserved : goal.loop-i-preserved
loop-i-preserved g c =
    appends_pair zoned_patch_bytes c.args.patches.now c.args.zones.now c.loop-i.i _ _ c.loop-i-test.true c.requires
    c.loop-i.invariant c.push_patch_with_zone.ensures

pub returns : goal.returns
returns g c =
    let rows = zip c.args.patches.now c.args.zones.now in
    let long = length-zip c.args.patches.now c.args.zones.now in
    rw (take_all c.loop-i.i rows (omega (arith, long, c.requires, c.loop-i-test.false))) at c.loop-i.invariant
