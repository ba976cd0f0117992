use Rattle.std.proofs.Common.{◌≡◌, [], drop}
use Rattle.std.specs.Prelude.{flat_map}
use Rattle.rcell_plan.specs.Needs.{needs_with_added_needs}
use Rattle.rcell_plan.specs.Plans.{map_read_by_step}
use Rattle.rcell_plan.proofs.reads.maps_read_by_steps.Given as goal

abbrev pub invariant-loop-step : goal.invariant-loop-step
invariant-loop-step l = needs_with_added_needs l.reads (flat_map map_read_by_step (drop l.step-index l.steps))
    ≡ needs_with_added_needs []
    (flat_map map_read_by_step l.steps)
