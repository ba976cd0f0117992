use Rattle.rcell_plan.specs.Plans.{needs_of_read}
use Rattle.rcell_plan.proofs.PlanLemmas.{flat_more}
use Rattle.rcell_plan.proofs.planning.needs_of_reads.Goals as goal

pub loop-read-preserved : goal.loop-read-preserved
loop-read-preserved c =
    flat_more c.args.reads.now c.loop-read.read-index _
    (needs_of_read c.args.known.now) c.loop-read.needs c.add_needs_widened_by_margin.new.self _ c.loop-read-test.true
    c.loop-read.invariant
    (rw c.needs_of_map_at_place.ensures at c.in_ok-add_needs_widened_by_margin.ensures)
