use Rattle.std.proofs.Common.{◌≡◌, ◌+◌, drop}
use Rattle.rcell_plan.specs.parts.Places.{position_among_needs}
use Rattle.rcell_plan.proofs.needs.position_among_needs.Given as goal

abbrev pub invariant-loop-i : goal.invariant-loop-i
invariant-loop-i l = position_among_needs l.place (drop l.i l.needs) + l.i ≡ position_among_needs l.place l.needs
