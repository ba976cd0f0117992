use Rattle.std.proofs.Common.{◌≡◌, ◌≤◌, ◌+◌, ◌∷◌, [], length, ap, ◌∙◌, arith, get_or, true, length-append, rules}
use Rattle.cell_calc.specs.CommonStretches.{centre_row, total_span_width}
use Rattle.cell_calc.proofs.StretchCells.{total-push, goes_more}
use Rattle.cell_calc.proofs.common_stretches.span_widths_if_few.Goals as goal

pub stretches-preserved : goal.stretches-preserved
stretches-preserved c =
    let windows = c.args.windows.now in
    let widths = c.stretches.widths.items in
    let from = c.stretches.from in
    let width = c.count_columns_without_change-width.result in
    let so_far = c.stretches.invariant in
    let next = c.count_columns_without_change-width.ensures in
    let is = c.in_ok-push.ensures.items in
    let left : from + width ≤ c.args.cols = omega (arith, next.within, c.stretches-test.true) in
    let reported : c.are_window_rows_of_width.result ≡ true = search rules in
    record {
      within = left;
      all = ap total_span_width is ∙ total-push widths width ∙ ap (λ n. n + width) so_far.all;
      few = omega (arith, ap (λ l. length l) is, length-append widths (width ∷ []), so_far.few, next.some);
      go = λ k d lt.
          let row = centre_row (get_or windows k d) in
          let wide : length row ≡ c.args.cols = c.are_window_rows_of_width.ensures reported k d lt in
          let within : from + width ≤ length row = omega (arith, left, wide) in
          rw is (goes_more row widths from width so_far.all within (so_far.go k d lt) (next.alike k d lt));
    }
