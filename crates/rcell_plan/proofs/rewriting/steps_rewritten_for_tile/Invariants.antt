use Rattle.std.proofs.Common.{◌≡◌, take}
use Rattle.std.specs.Prelude.{flat_map}
use Rattle.rcell_plan.specs.parts.RewrittenSteps.{step_rewritten_for_tile}
use Rattle.rcell_plan.proofs.rewriting.steps_rewritten_for_tile.Given as goal

abbrev pub invariant-loop-step : goal.invariant-loop-step
invariant-loop-step l = l.steps.items ≡ flat_map (step_rewritten_for_tile l.place) (take l.step-index l.given)
