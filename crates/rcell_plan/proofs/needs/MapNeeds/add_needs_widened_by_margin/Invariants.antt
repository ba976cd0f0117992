use Rattle.std.proofs.Common.{◌≡◌, map, drop}
use Rattle.rcell_plan.specs.Needs.{need_widened_by_margin, needs_with_added_needs}
use Rattle.rcell_plan.proofs.needs.MapNeeds.add_needs_widened_by_margin.Given as goal

abbrev pub invariant-loop-need : goal.invariant-loop-need
invariant-loop-need l = needs_with_added_needs l.self (map (need_widened_by_margin l.margin)
    (drop l.need-index l.more)) ≡ needs_with_added_needs
    l.fn.self (map (need_widened_by_margin l.margin) l.more)
