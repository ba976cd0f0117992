use Rattle.std.proofs.Common.{rules, max, ◌≡◌, arith}
use Rattle.cell_calc_language.specs.Reach.{rows_read_above_at_offset}
use Rattle.cell_calc_language.proofs.FormulaSteps.{greatest_more}
use Rattle.cell_calc_language.proofs.bound.up.Goals as goal

pub loop-step-preserved : goal.loop-step-preserved
loop-step-preserved c =
    let most : c.max-up.result ≡ max c.loop-step.up c.rows_read_above_by_step.result = search rules in
    record {
      value = greatest_more (rows_read_above_at_offset c.args.i) c.args.steps.now c.loop-step.step-index _ _ _ _ c.loop-step-test.true c.loop-step.invariant.value c.rows_read_above_by_step.ensures.value most;
      bound = omega (arith, c.loop-step.invariant.bound, c.rows_read_above_by_step.ensures.bound, most);
    }
