use Rattle.std.proofs.Common.{◌≡◌, ◌++◌, ◌-◌}
use Rattle.rcell_plan.specs.Plans.{needs_of_given_maps_from, needs_of_given_maps}
use Rattle.rcell_plan.proofs.planning.needs_of_given_maps.Given as goal

abbrev pub invariant-loop-place : goal.invariant-loop-place
invariant-loop-place l = l.known.items ++ needs_of_given_maps_from l.place (l.count - l.place)
    ≡ needs_of_given_maps l.count
