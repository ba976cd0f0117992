use Rattle.rcell_plan.proofs.RewriteLemmas.{one_more_step}
use Rattle.rcell_plan.proofs.rewriting.steps_rewritten_for_tile.Goals as goal

pub loop-step-preserved : goal.loop-step-preserved
loop-step-preserved c =
    one_more_step c.args.place c.args.given.now c.loop-step.steps.items c.push_step_rewritten_for_tile.new.steps.items
    c.loop-step.step-index _ c.loop-step-test.true c.loop-step.invariant c.in_ok-push_step_rewritten_for_tile.ensures
