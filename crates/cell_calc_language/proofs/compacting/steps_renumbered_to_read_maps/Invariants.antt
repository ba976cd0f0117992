use Rattle.std.proofs.Common.{◌≡◌, ℕ, length, map, max, take}
use Rattle.std.specs.Prelude.{All}
use Rattle.cell_calc_language.specs.Compact.{ReadsMap, FormulaReadsMapsAtPlaces, AreDistinctPlaces}
use Rattle.cell_calc_language.specs.Formula.{Formula}
use Rattle.cell_calc_language.specs.parts.TreeSteps.{position_among_places, StepReadsListedPlace, StepReadsMapAtPlace}
use Rattle.cell_calc_language.specs.Reach.{map_place_limit_at_offset}
use Rattle.cell_calc_grammar.specs.Postfix.{step_with_leaf_replaced, fold_maps_of_steps}
use Rattle.cell_calc_language.proofs.compacting.steps_renumbered_to_read_maps.Given as goal

abbrev pub invariant-loop-step : goal.invariant-loop-step
invariant-loop-step l =
    record {
      steps : l.others.items ≡ map (step_with_leaf_replaced (position_among_places l.places.items))
          (take l.step-index l.steps);
      listed : All (StepReadsListedPlace l.places.items) (take l.step-index l.steps);
      count : length l.places.items ≡ fold_maps_of_steps map_place_limit_at_offset 0 max l.others.items;
      distinct : AreDistinctPlaces l.places.items;
      read : (f : Formula) → All (λ s. (i : ℕ) → StepReadsMapAtPlace i s → ReadsMap i f) l.steps
          → FormulaReadsMapsAtPlaces l.places.items f;
    }
