use Rattle.std.proofs.Common.{◌<◌, ℕ, get_or}
use Rattle.cell_calc_grammar.specs.declared.step.Step.{Step}
use Rattle.cell_calc.specs.parts.InPlace.{StepDependsOnlyOnOwnCells}
use Rattle.cell_calc.proofs.in_place.steps_depend_only_on_own_cells.Given as goal

abbrev pub invariant-loop-step : goal.invariant-loop-step
invariant-loop-step l = (i : ℕ) (d : Step ℕ) → i < l.step-index → StepDependsOnlyOnOwnCells (get_or l.steps i d)
