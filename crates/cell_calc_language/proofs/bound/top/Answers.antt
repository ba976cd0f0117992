use Rattle.std.proofs.Common.{rules, max, ◌≡◌}
use Rattle.cell_calc_language.specs.Reach.{map_place_limit_at_offset}
use Rattle.cell_calc_language.proofs.FormulaSteps.{greatest_more}
use Rattle.cell_calc_language.proofs.bound.top.Goals as goal

pub loop-step-preserved : goal.loop-step-preserved
loop-step-preserved c =
    let most : c.max-top.result ≡ max c.loop-step.top c.map_place_limit_of_step.result = search rules in
    greatest_more map_place_limit_at_offset c.args.steps.now c.loop-step.step-index _ _ _ _ c.loop-step-test.true c.loop-step.invariant c.map_place_limit_of_step.ensures most
