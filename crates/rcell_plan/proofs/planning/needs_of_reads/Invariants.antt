use Rattle.std.proofs.Common.{◌≡◌, [], drop}
use Rattle.std.specs.Prelude.{flat_map}
use Rattle.rcell_plan.specs.Needs.{needs_with_added_needs}
use Rattle.rcell_plan.specs.Plans.{needs_of_read}
use Rattle.rcell_plan.proofs.planning.needs_of_reads.Given as goal

abbrev pub invariant-loop-read : goal.invariant-loop-read
invariant-loop-read l = needs_with_added_needs l.needs (flat_map (needs_of_read l.known) (drop l.read-index l.reads)) ≡
    needs_with_added_needs [] (flat_map (needs_of_read l.known) l.reads)
