use Rattle.std.proofs.Common.{take_all}
use Rattle.rcell_pipe_frames.proofs.AppendLemmas.{appends_more}
use Rattle.rcell_pipe_join.specs.JoinFrames.{patch_number_run_bytes}
use Rattle.rcell_pipe_join.proofs.join_frame.push_patch_number_runs.Goals as goal

pub loop-run-preserved : goal.loop-run-preserved
loop-run-preserved g c =
    appends_more patch_number_run_bytes c.args.runs.now c.loop-run.run-index _ c.loop-run-test.true c.loop-run.invariant
    c.push_patch_number_run.ensures

pub returns : goal.returns
returns g c = rw (take_all c.loop-run.run-index c.args.runs.now c.loop-run-test.false) at c.loop-run.invariant
