use Rattle.std.proofs.Common.{◌≡◌, length, ap, ◌∙◌, rules}
use Rattle.std.proofs.lemmas.Result.{IfOk-from_err}
use Rattle.cell_calc_language.specs.Applied.{operator_value}
use Rattle.cell_calc.specs.RowValues.{at}
use Rattle.cell_calc.specs.parts.Operands.{operand_cell_in_strip_column}
use Rattle.cell_calc.proofs.Rings.{written}
use Rattle.cell_calc.proofs.Written.{at_written}
use Rattle.cell_calc.proofs.operand.row_of_operator_values.Goals as goal

pub writable_row_of_operand-requires : goal.writable_row_of_operand-requires
writable_row_of_operand-requires c = record { strip = c.requires.strip; ready = c.requires.left }

pub apply_operator_to_row_and_operand-requires : goal.apply_operator_to_row_and_operand-requires
apply_operator_to_row_and_operand-requires c = record {
  strip = c.requires.strip;
  right = c.requires.right;
  width = ap (λ l. length l) c.as_mut_slice.ensures.value ∙ c.in_ok-row.ensures.width;
}

pub returns-in_err-row : goal.returns-in_err-row
returns-in_err-row c = IfOk-from_err c.from_residual.result _ c.from_residual.ensures.0

pub returns-in_err-apply_operator_to_row_and_operand : goal.returns-in_err-apply_operator_to_row_and_operand
returns-in_err-apply_operator_to_row_and_operand c =
    IfOk-from_err c.from_residual-in_err-apply_operator_to_row_and_operand.result _
    c.from_residual-in_err-apply_operator_to_row_and_operand.ensures.0

pub returns : goal.returns
returns c =
    let row = c.in_ok-row.row in
    let all : row.len ≡ length row.items = search rules in
    let same = ap (λ l. length l) c.as_mut_slice.ensures.value in
    let kept = c.apply_operator_to_row_and_operand.auto.row ∙ same in
    record {
      width = ap (λ l. length l) (written row.len c.apply_operator_to_row_and_operand.new.row row.items all kept)
          ∙ kept ∙ c.in_ok-row.ensures.width;
      each = λ k h.
          let right = operand_cell_in_strip_column c.args.windows.now c.args.strip.now k c.args.right in
          at_written row.len c.apply_operator_to_row_and_operand.new.row row.items k all kept
          ∙ c.in_ok-apply_operator_to_row_and_operand.ensures k h
          ∙ ap (λ l. operator_value c.args.operator (at l k) right) c.as_mut_slice.ensures.value
          ∙ ap (λ v. operator_value c.args.operator v right) (c.in_ok-row.ensures.each k h);
    }
