use Rattle.std.proofs.Common.{take_all}
use Rattle.rcell_plan_response.specs.PlanFrames.{need_bytes}
use Rattle.rcell_pipe_frames.proofs.AppendLemmas.{appends_more}
use Rattle.rcell_plan_response.proofs.plan_frames.push_each_map_need.Goals as goal

pub loop-need-preserved : goal.loop-need-preserved
loop-need-preserved g c =
    appends_more (need_bytes c.args.names.now) c.args.needs.now c.loop-need.need-index _ c.loop-need-test.true
    c.loop-need.invariant c.push_map_need.ensures

pub returns : goal.returns
returns g c = rw (take_all c.loop-need.need-index c.args.needs.now c.loop-need-test.false) at c.loop-need.invariant
