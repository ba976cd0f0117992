use Rattle.std.proofs.Common.{◌≡◌, map, take}
use Rattle.rcell_plan.specs.Needs.{requiring_full_map}
use Rattle.rcell_plan.proofs.needs.MapNeeds.requiring_full_map.Given as goal

abbrev pub invariant-loop-need : goal.invariant-loop-need
invariant-loop-need l = l.list.items ≡ map requiring_full_map (take l.need-index l.needs)
