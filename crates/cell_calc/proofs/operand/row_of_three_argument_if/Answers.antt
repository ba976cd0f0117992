use Rattle.std.proofs.Common.{◌≡◌, length, ap, ◌∙◌, rules}
use Rattle.std.proofs.lemmas.Result.{IfOk-from_err}
use Rattle.cell_calc_language.specs.CellOperators.{cell_chosen_by_condition}
use Rattle.cell_calc.specs.RowValues.{at}
use Rattle.cell_calc.specs.parts.Operands.{operand_cell_in_strip_column}
use Rattle.cell_calc.proofs.Rings.{written}
use Rattle.cell_calc.proofs.Written.{at_written}
use Rattle.cell_calc.proofs.operand.row_of_three_argument_if.Goals as goal

pub writable_row_of_operand-requires : goal.writable_row_of_operand-requires
writable_row_of_operand-requires c = record { strip = c.requires.strip; ready = c.requires.no }

pub writable_row_of_operand-requires-2 : goal.writable_row_of_operand-requires-2
writable_row_of_operand-requires-2 c = record { strip = c.requires.strip; ready = c.requires.condition }

pub copy_operand_where_true-requires : goal.copy_operand_where_true-requires
copy_operand_where_true-requires c = record {
  strip = c.requires.strip;
  yes = c.requires.yes;
  width = ap (λ l. length l) c.as_mut_slice.ensures.value ∙ c.in_ok-row.ensures.width;
  conditions = ap (λ l. length l) c.as_slice-others.ensures.value ∙ c.in_ok-conditions.ensures.width;
}

pub returns-in_err-row : goal.returns-in_err-row
returns-in_err-row c = IfOk-from_err c.from_residual.result _ c.from_residual.ensures.0

pub returns-in_err-conditions : goal.returns-in_err-conditions
returns-in_err-conditions c =
    IfOk-from_err c.from_residual-in_err-conditions.result _ c.from_residual-in_err-conditions.ensures.0

pub returns-in_err-copy_operand_where_true : goal.returns-in_err-copy_operand_where_true
returns-in_err-copy_operand_where_true c =
    IfOk-from_err c.from_residual-in_err-copy_operand_where_true.result _
    c.from_residual-in_err-copy_operand_where_true.ensures.0

pub returns-in_err-push : goal.returns-in_err-push
returns-in_err-push c = IfOk-from_err c.from_residual-in_err-push.result _ c.from_residual-in_err-push.ensures.0

pub returns : goal.returns
returns c =
    let row = c.in_ok-row.row in
    let all : row.len ≡ length row.items = search rules in
    let same = ap (λ l. length l) c.as_mut_slice.ensures.value in
    let kept = c.copy_operand_where_true.auto.row ∙ same in
    record {
      width = ap (λ l. length l) (written row.len c.copy_operand_where_true.new.row row.items all kept) ∙ kept
          ∙ c.in_ok-row.ensures.width;
      each = λ k h.
          let condition = operand_cell_in_strip_column c.args.windows.now c.args.strip.now k c.args.condition in
          let yes = operand_cell_in_strip_column c.args.windows.now c.args.strip.now k c.args.yes in
          let old = at c.as_mut_slice.result.now k in
          at_written row.len c.copy_operand_where_true.new.row row.items k all kept
          ∙ c.in_ok-copy_operand_where_true.ensures k h
          ∙ ap (λ l. cell_chosen_by_condition (at l k) yes old) c.as_slice-others.ensures.value
          ∙ ap (λ v. cell_chosen_by_condition v yes old) (c.in_ok-conditions.ensures.each k h)
          ∙ ap (λ l. cell_chosen_by_condition condition yes (at l k)) c.as_mut_slice.ensures.value
          ∙ ap (λ v. cell_chosen_by_condition condition yes v) (c.in_ok-row.ensures.each k h);
    }
