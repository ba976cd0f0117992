use Rattle.std.proofs.Common.{◌≡◌, take, max}
use Rattle.cell_calc_language.specs.Reach.{map_place_limit_at_offset}
use Rattle.cell_calc_grammar.specs.Postfix.{fold_maps_of_steps}
use Rattle.cell_calc_language.proofs.bound.top.Given as goal

abbrev pub invariant-loop-step : goal.invariant-loop-step
invariant-loop-step l = l.top ≡ fold_maps_of_steps map_place_limit_at_offset 0 max (take l.step-index l.steps)
