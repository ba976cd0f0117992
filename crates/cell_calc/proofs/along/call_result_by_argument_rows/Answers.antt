use Rattle.std.proofs.Common.{◌≡◌, ◌<◌, ◌≤◌, ◌+◌, length, map, sym, ap, ◌∙◌, subst, rules}
use Rattle.std.proofs.lemmas.List.Elements.{All-same}
use Rattle.std.proofs.lemmas.Result.{IfOk-from_err}
use Rattle.cell_calc_language.specs.Applied.{call_result}
use Rattle.cell_calc.specs.RowValues.{cells_at_column}
use Rattle.cell_calc.specs.parts.Operands.{position_of_strip_column}
use Rattle.cell_calc.proofs.Written.{at_written, changed_width}
use Rattle.cell_calc.proofs.along.call_result_by_argument_rows.Goals as goal

pub move_operands_to_argument_rows-requires : goal.move_operands_to_argument_rows-requires
move_operands_to_argument_rows-requires c = c.requires

pub returns-in_err-move_operands_to_argument_rows : goal.returns-in_err-move_operands_to_argument_rows
returns-in_err-move_operands_to_argument_rows c = IfOk-from_err c.from_residual.result _ c.from_residual.ensures.0

pub returns-in_err-row : goal.returns-in_err-row
returns-in_err-row c = IfOk-from_err c.from_residual-in_err-row.result _ c.from_residual-in_err-row.ensures.0

pub returns-in_err-write_call_values : goal.returns-in_err-write_call_values
returns-in_err-write_call_values c =
    IfOk-from_err c.from_residual-in_err-write_call_values.result _ c.from_residual-in_err-write_call_values.ensures.0

pub returns-in_err-append : goal.returns-in_err-append
returns-in_err-append c = IfOk-from_err c.from_residual-in_err-append.result _ c.from_residual-in_err-append.ensures.0

pub write_call_values-requires-clause-at_row : goal.write_call_values-requires-clause-at_row
write_call_values-requires-clause-at_row c = c.requires.strip.row

pub write_call_values-requires-clause-width : goal.write_call_values-requires-clause-width
write_call_values-requires-clause-width c =
    let start = ap (λ l. length l) c.as_mut_slice-cells.ensures.value ∙ c.in_ok-row.ensures in
    subst (λ n. c.args.strip.now.from + n ≤ c.args.strip.now.region.cols) (sym start) c.requires.strip.columns

pub write_call_values-requires-clause-widths : goal.write_call_values-requires-clause-widths
write_call_values-requires-clause-widths c =
    let start = ap (λ l. length l) c.as_mut_slice-cells.ensures.value ∙ c.in_ok-row.ensures in
    let all = All-same (λ cells. length cells.items ≡ c.args.strip.now.width) c.as_slice-arguments.result.now _
    c.as_slice-arguments.ensures.value c.in_ok-move_operands_to_argument_rows.ensures.width in
    λ k d lt. all k d lt ∙ sym start

pub returns : goal.returns
returns c = record {
  rest = c.in_ok-move_operands_to_argument_rows.ensures.rest;
  width =
      let row = c.in_ok-row.row in
      let all : row.len ≡ length row.items = search rules in
      changed_width row.len c.args.strip.now.width row.items c.as_mut_slice-cells.result.now
      c.write_call_values.new.row all
      c.as_mut_slice-cells.ensures.value c.write_call_values.auto.row c.in_ok-row.ensures;
  each =
      let row = c.in_ok-row.row in
      let all : row.len ≡ length row.items = search rules in
      let strip = c.args.strip.now in
      let same = ap (λ l. length l) c.as_mut_slice-cells.ensures.value in
      let start = same ∙ c.in_ok-row.ensures in
      λ k h.
      at_written row.len c.write_call_values.new.row row.items k all (c.write_call_values.auto.row ∙ same)
      ∙ c.in_ok-write_call_values.ensures k (subst (λ n. k < n) (sym start) h)
      ∙ ap (λ l. call_result c.args.function (position_of_strip_column strip k)
      (cells_at_column k (map (λ v. v.items) l)))
      c.as_slice-arguments.ensures.value
      ∙ ap (λ l. call_result c.args.function (position_of_strip_column strip k) l)
      (c.in_ok-move_operands_to_argument_rows.ensures.each k h);
}
