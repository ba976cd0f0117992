use Rattle.std.proofs.Common.{◌<◌, ℕ, get_or}
use Rattle.cell_calc_grammar.specs.declared.step.Step.{Step}
use Rattle.cell_calc.specs.ByCategory.{StepDependsOnlyOnCategory}
use Rattle.cell_calc.proofs.by_category.is_faster_by_category_lookup.Given as goal

abbrev pub invariant-loop-step : goal.invariant-loop-step
invariant-loop-step l = (i : ℕ) (d : Step ℕ) → i < l.step-index → StepDependsOnlyOnCategory (get_or l.steps i d)
