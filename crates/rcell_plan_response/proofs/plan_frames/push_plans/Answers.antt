use Rattle.std.proofs.Common.{arith, sym, take_all}
use Rattle.std.specs.List.{zip}
use Rattle.std.proofs.lemmas.Slice.Zip.{length-zip}
use Rattle.rcell_plan_response.specs.PlanFrames.{plan_bytes}
use Rattle.rcell_pipe_frames.proofs.AppendLemmas.{appends_pair}
use Rattle.rcell_plan_response.proofs.plan_frames.push_plans.Goals as goal

pub loop-i-preserved : goal.loop-i-preserved
loop-i-preserved g c =
    appends_pair (plan_bytes c.args.names.now) c.args.plans.now c.args.statements.now c.loop-i.i _ _
    c.loop-i-test.true (sym c.requires) c.loop-i.invariant
    (rw (c.index-plans-i.is, c.index-statements-i.is) at c.push_plan.ensures)

pub returns : goal.returns
returns g c =
    let rows = zip c.args.plans.now c.args.statements.now in
    let long = length-zip c.args.plans.now c.args.statements.now in
    rw (take_all c.loop-i.i rows (omega (arith, long, c.requires, c.loop-i-test.false))) at c.loop-i.invariant
