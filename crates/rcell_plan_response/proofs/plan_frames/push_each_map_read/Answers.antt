use Rattle.std.proofs.Common.{take_all}
use Rattle.rcell_plan_response.specs.PlanFrames.{map_read_bytes}
use Rattle.rcell_pipe_frames.proofs.AppendLemmas.{appends_more}
use Rattle.rcell_plan_response.proofs.plan_frames.push_each_map_read.Goals as goal

pub loop-read-preserved : goal.loop-read-preserved
loop-read-preserved g c =
    appends_more (map_read_bytes c.args.names.now) c.args.reads.now c.loop-read.read-index _ c.loop-read-test.true
    c.loop-read.invariant c.push_map_read.ensures

pub returns : goal.returns
returns g c = rw (take_all c.loop-read.read-index c.args.reads.now c.loop-read-test.false) at c.loop-read.invariant
