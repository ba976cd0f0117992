use Rattle.std.proofs.Common.{◌≡◌, [], drop, map}
use Rattle.rcell_plan.specs.Needs.{need_of_own_cell, needs_with_added_needs}
use Rattle.rcell_plan.proofs.reads.needs_of_places_at_own_cell.Given as goal

abbrev pub invariant-loop-place : goal.invariant-loop-place
invariant-loop-place l = needs_with_added_needs l.reads (map need_of_own_cell (drop l.place-index l.places))
    ≡ needs_with_added_needs [] (map need_of_own_cell l.places)
