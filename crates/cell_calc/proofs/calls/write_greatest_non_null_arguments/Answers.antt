use Rattle.std.proofs.Common.{arith, ◌∙◌, None, map}
use Rattle.cell_calc.specs.RowValues.{cells_at_column}
use Rattle.cell_calc_language.specs.Joins.{greater_ignoring_null}
use Rattle.cell_calc_modes.proofs.Columns.{fold_step, fold_all, known_greatest_is}
use Rattle.cell_calc.proofs.calls.write_greatest_non_null_arguments.Goals as goal

pub loop-other-preserved : goal.loop-other-preserved
loop-other-preserved c = record {
  done = λ k h. fold_step (λ cells. cells.items) greater_ignoring_null None _ c.loop-other.other-index k
      c.other-item.result _ _ _ c.loop-other-test.true c.other-item.is
      c.as_slice.ensures.value (c.loop-other.invariant.done k (omega arith))
      (c.replace_by_larger_ignoring_null.ensures k (omega arith));
}

pub returns : goal.returns
returns c = λ k h. fold_all (λ cells. cells.items) greater_ignoring_null None c.args.arguments.now
    c.loop-other.other-index k _ c.loop-other-test.false
    (c.loop-other.invariant.done k (omega arith))
    ∙ known_greatest_is (cells_at_column k (map (λ cells. cells.items) c.args.arguments.now))
