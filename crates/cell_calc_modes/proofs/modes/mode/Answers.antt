use Rattle.std.proofs.Common.{arith, ◌∙◌, map}
use Rattle.cell_calc_modes.specs.ColumnCells.{cells_at_column}
use Rattle.cell_calc_language.specs.CellOperators.{most_frequent, non_null_cells}
use Rattle.cell_calc_modes.specs.parts.Modes.{cell_unless_other_null}
use Rattle.cell_calc_modes.proofs.Columns.{fold_step, fold_all}
use Rattle.cell_calc_modes.proofs.Frequent.{mode_is}
use Rattle.cell_calc_modes.proofs.modes.mode.Goals as goal

pub loop-other-preserved : goal.loop-other-preserved
loop-other-preserved c = record {
  done = λ k h. fold_step (λ cells. cells.items) cell_unless_other_null _ _ c.loop-other.other-index k
      c.other-item.result _ _ _
      c.loop-other-test.true c.other-item.is
      c.as_slice.ensures.value (c.loop-other.invariant.done k (omega arith))
      (c.copy_nulls_of_row.ensures k (omega arith));
}

pub returns : goal.returns
returns c = λ k h.
    let cells = cells_at_column k (map (λ cells. cells.items) c.args.arguments.now) in
    fold_all (λ cells. cells.items) cell_unless_other_null (most_frequent (non_null_cells cells)) c.args.arguments.now
    c.loop-other.other-index k _ c.loop-other-test.false
    (c.loop-other.invariant.done k (omega arith))
    ∙ mode_is cells
