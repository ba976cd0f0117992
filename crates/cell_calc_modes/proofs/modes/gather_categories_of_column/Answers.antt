use Rattle.std.proofs.Common.{arith, ◌<◌, length}
use Rattle.cell_calc_language.specs.CellOperators.{is_null}
use Rattle.cell_calc_modes.proofs.Frequent.{gather_step, gathered, one_at_most}
use Rattle.cell_calc_modes.proofs.modes.gather_categories_of_column.Goals as goal

pub loop-other-preserved : goal.loop-other-preserved
loop-other-preserved c =
    let so_far = c.loop-other.invariant.count in
    let more = one_at_most
    (is_null c.argument_cell_at_column-cell.result) c.one_if_category_else_zero-count.result
    c.one_if_category_else_zero-count.ensures in
    let room : c.loop-other.count < length c.loop-other.cells = omega
    (arith, so_far, c.loop-other-test.true, c.loop-other.auto.cells, c.requires.room) in
    record {
      count = omega (arith, so_far, more);
      known = gather_step (λ row. row.items) c.args.arguments.now c.loop-other.other-index c.args.c c.loop-other.count
          c.one_if_category_else_zero-count.result
          c.other-item.result c.as_slice.result.now c.argument_cell_at_column-cell.result c.loop-other.cells
          c.loop-other-test.true c.other-item.is c.as_slice.ensures.value c.argument_cell_at_column-cell.ensures room
          c.loop-other.invariant.known c.one_if_category_else_zero-count.ensures;
    }

pub returns-clause-known : goal.returns-clause-known
returns-clause-known c = gathered (λ row. row.items) c.args.arguments.now c.loop-other.other-index c.args.c _
    c.loop-other-test.false c.loop-other.invariant.known
