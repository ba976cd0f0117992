use Rattle.rcell_plan.proofs.PlanLemmas.{given_more}
use Rattle.rcell_plan.proofs.planning.needs_of_given_maps.Goals as goal

pub loop-place-preserved : goal.loop-place-preserved
loop-place-preserved c =
    given_more c.args.count c.loop-place.place c.loop-place.known.items c.push.new.self.items _
    c.loop-place-test.true c.loop-place.invariant
    (rw c.in_ok-needs.ensures at c.in_ok-push.ensures.items)
