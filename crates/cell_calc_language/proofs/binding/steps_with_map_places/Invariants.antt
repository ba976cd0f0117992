use Rattle.std.proofs.Common.{◌≡◌, map, take}
use Rattle.cell_calc_language.specs.Binding.{place_of_map_name}
use Rattle.cell_calc_grammar.specs.Postfix.{step_with_leaf_replaced}
use Rattle.cell_calc_language.proofs.binding.steps_with_map_places.Given as goal

abbrev pub invariant-loop-step : goal.invariant-loop-step
invariant-loop-step l = l.found.items ≡ map (step_with_leaf_replaced (place_of_map_name l.names))
    (take l.step-index l.steps)
