use Rattle.std.proofs.Common.{◌<◌, ◌∷◌, [], ap, ◌∙◌, arith}
use Rattle.cell_calc.specs.RowValues.{at}
use Rattle.cell_calc.specs.CommonStretches.{total_span_width}
use Rattle.cell_calc.specs.parts.Columns.{place_of_span_at_column}
use Rattle.cell_calc.proofs.StretchCells.{spread-at, place_of_span_at_column-within, like_start}
use Rattle.cell_calc.proofs.rows_of_values.write_expression_values_of_row.Goals as goal

pub returns-in-Some-clause-each : goal.returns-in-Some-clause-each
returns-in-Some-clause-each c = λ k lt.
    let widths = c.in-Some.widths.items in
    let values = c.in_ok-values.values.items in
    let stretches = rw c.in-Some.is at c.in_ok-widths.ensures.stretches in
    let below : k < total_span_width widths = omega (arith, stretches.all, c.cols-cols.ensures.value, lt) in
    let count = rw c.as_slice.ensures.value at c.in_ok-values.ensures.count in
    let each = rw c.as_slice.ensures.value at c.in_ok-values.ensures.each in
    let spread_out = rw (c.as_slice-in-Some.ensures.value, c.as_slice-in-Some-2.ensures.value) at
    c.spread_values_over_spans.ensures in
    ap (λ l. at l k ∷ []) spread_out ∙ ap (λ v. v ∷ []) (spread-at values widths k count below)
    ∙ each (place_of_span_at_column widths k) k (place_of_span_at_column-within widths k below)
    (like_start c.args.windows.now widths k stretches.go below)
