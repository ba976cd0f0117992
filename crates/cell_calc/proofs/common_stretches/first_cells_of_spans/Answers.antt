use Rattle.std.proofs.Common.{◌+◌, ◌++◌, ◌∷◌, [], sym, ap, ◌∙◌, arith, take, get_or}
use Rattle.cell_calc.specs.RowValues.{at}
use Rattle.cell_calc.specs.CommonStretches.{span_start_cells}
use Rattle.cell_calc.proofs.StretchCells.{starts_next, total_next, total_within}
use Rattle.cell_calc.proofs.common_stretches.first_cells_of_spans.Goals as goal

pub overflow_add-from : goal.overflow_add-from
overflow_add-from c =
    let widths = c.args.widths.now in
    let i = c.loop-width.width-index in
    omega (
      arith,
      total_next widths i 0 c.loop-width-test.true,
      total_within widths (i + 1),
      c.requires,
      c.loop-width.invariant.from,
    )

pub loop-width-preserved : goal.loop-width-preserved
loop-width-preserved c =
    let widths = c.args.widths.now in
    let row = c.args.row.now in
    let i = c.loop-width.width-index in
    let so_far = c.loop-width.invariant in
    record {
      from = ap (λ n. n + get_or widths i 0) so_far.from ∙ sym (total_next widths i 0 c.loop-width-test.true);
      cells = c.in_ok-push.ensures.items ∙ ap (λ l. l ++ c.cell_or_null_past_end.result ∷ []) so_far.cells
          ∙ ap (λ v. span_start_cells row (take i widths) ++ v ∷ []) (c.cell_or_null_past_end.ensures
          ∙ ap (λ n. at row n) so_far.from)
          ∙ sym (starts_next row widths i 0 c.loop-width-test.true);
    }
