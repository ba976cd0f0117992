use Rattle.std.proofs.Common.{rules, arith, ◌≡◌, ℕ, ◌∷◌, [], length, refl, Some, pos}
use Rattle.std.proofs.lemmas.Result.{IfOk-from_err}
use Rattle.cell_calc_language.specs.Applied.{absolute_value_of_cell}
use Rattle.cell_calc_language.specs.CellOperators.{cell_chosen_by_condition, cell_of_truth_value, is_null}
use Rattle.cell_calc.specs.declared.strip.Operand.{Operand}
use Rattle.cell_calc.specs.parts.Operands.{CanReadOperand, RowHasCellsAlongStrip, IsRowOfFunctionCall}
use Rattle.cell_calc.specs.parts.Operands.{operand_cell_in_strip_column}
use Rattle.cell_calc.proofs.Operands.{front_is, back_is, more_before, of_last, of_front, three_last, if_ok}
use Rattle.cell_calc.proofs.Written.{changed_width, changed}
use Rattle.cell_calc.proofs.along.call_result_on_last_operands.Goals as goal

pub pop_operand-last-requires : goal.pop_operand-last-requires
pop_operand-last-requires c = rw c.in-If-eq1.is-1 at c.requires.enough

pub writable_row_of_operand-requires-clause-strip : goal.writable_row_of_operand-requires-clause-strip
writable_row_of_operand-requires-clause-strip c = c.requires.strip

pub writable_row_of_operand-requires-clause-ready : goal.writable_row_of_operand-requires-clause-ready
writable_row_of_operand-requires-clause-ready c =
    of_last (CanReadOperand c.args.windows.now c.args.strip.now) c.args.operands.now.items c.pop_operand-last.new.operands.items c.pop_operand-last.result c.pop_operand-last.ensures
    c.requires.ready

pub returns-in_err-row-in-If-eq1 : goal.returns-in_err-row-in-If-eq1
returns-in_err-row-in-If-eq1 c = IfOk-from_err c.from_residual.result _ c.from_residual.ensures.0

pub returns-in_ok-row-in-If-eq1 : goal.returns-in_ok-row-in-If-eq1
returns-in_ok-row-in-If-eq1 c = record {
  rest = rw c.in-If-eq1.is-1 (front_is c.args.operands.now.items c.pop_operand-last.new.operands.items (c.pop_operand-last.result ∷ []) 1 c.pop_operand-last.ensures refl);
  width =
      let row = c.in_ok-row-in-If-eq1.row in
      let all : row.len ≡ length row.items = search rules in
      changed_width row.len c.args.strip.now.width row.items c.as_mut_slice.result.now c.replace_nonzero_cells_by_one.new.row all c.as_mut_slice.ensures.value
      c.replace_nonzero_cells_by_one.auto.row c.in_ok-row-in-If-eq1.ensures.width;
  each =
      let row = c.in_ok-row-in-If-eq1.row in
      let all : row.len ≡ length row.items = search rules in
      let last = back_is c.args.operands.now.items c.pop_operand-last.new.operands.items (c.pop_operand-last.result ∷ []) 1 c.pop_operand-last.ensures refl in
      rw (c.in-If-eq1.is-0, c.in-If-eq1.is-1, ← last) (λ k h. changed (λ v. cell_chosen_by_condition v (Some (pos 1)) (Some (pos 0))) row.len c.args.strip.now.width k
      row.items c.as_mut_slice.result.now c.replace_nonzero_cells_by_one.new.row
      (operand_cell_in_strip_column c.args.windows.now c.args.strip.now k c.pop_operand-last.result) all c.as_mut_slice.ensures.value c.replace_nonzero_cells_by_one.auto.row c.replace_nonzero_cells_by_one.ensures
      c.in_ok-row-in-If-eq1.ensures.width h (c.in_ok-row-in-If-eq1.ensures.each k h));
}

pub pop_operand-last-requires-in-IsNull-eq1 : goal.pop_operand-last-requires-in-IsNull-eq1
pop_operand-last-requires-in-IsNull-eq1 c = rw c.in-IsNull-eq1.is-1 at c.requires.enough

pub writable_row_of_operand-requires-in-IsNull-eq1-clause-strip :
    goal.writable_row_of_operand-requires-in-IsNull-eq1-clause-strip
writable_row_of_operand-requires-in-IsNull-eq1-clause-strip c = c.requires.strip

pub writable_row_of_operand-requires-in-IsNull-eq1-clause-ready :
    goal.writable_row_of_operand-requires-in-IsNull-eq1-clause-ready
writable_row_of_operand-requires-in-IsNull-eq1-clause-ready c =
    of_last (CanReadOperand c.args.windows.now c.args.strip.now) c.args.operands.now.items
    c.pop_operand-last-in-IsNull-eq1.new.operands.items
    c.pop_operand-last-in-IsNull-eq1.result c.pop_operand-last-in-IsNull-eq1.ensures c.requires.ready

pub returns-in_err-row-in-IsNull-eq1 : goal.returns-in_err-row-in-IsNull-eq1
returns-in_err-row-in-IsNull-eq1 c =
    IfOk-from_err c.from_residual-in_err-row-in-IsNull-eq1.result _ c.from_residual-in_err-row-in-IsNull-eq1.ensures.0

pub returns-in_ok-row-in-IsNull-eq1 : goal.returns-in_ok-row-in-IsNull-eq1
returns-in_ok-row-in-IsNull-eq1 c = record {
  rest =
      rw c.in-IsNull-eq1.is-1 (front_is c.args.operands.now.items c.pop_operand-last-in-IsNull-eq1.new.operands.items (c.pop_operand-last-in-IsNull-eq1.result ∷ []) 1
      c.pop_operand-last-in-IsNull-eq1.ensures refl);
  width =
      let row = c.in_ok-row-in-IsNull-eq1.row in
      let all : row.len ≡ length row.items = search rules in
      changed_width row.len c.args.strip.now.width row.items c.as_mut_slice-in-IsNull-eq1.result.now c.write_null_flags.new.row all
      c.as_mut_slice-in-IsNull-eq1.ensures.value c.write_null_flags.auto.row c.in_ok-row-in-IsNull-eq1.ensures.width;
  each =
      let row = c.in_ok-row-in-IsNull-eq1.row in
      let all : row.len ≡ length row.items = search rules in
      let last = back_is c.args.operands.now.items c.pop_operand-last-in-IsNull-eq1.new.operands.items (c.pop_operand-last-in-IsNull-eq1.result ∷ []) 1
      c.pop_operand-last-in-IsNull-eq1.ensures refl in
      rw (c.in-IsNull-eq1.is-0, c.in-IsNull-eq1.is-1, ← last) (λ k h. changed (λ v. cell_of_truth_value (is_null v)) row.len c.args.strip.now.width k row.items
      c.as_mut_slice-in-IsNull-eq1.result.now c.write_null_flags.new.row
      (operand_cell_in_strip_column c.args.windows.now c.args.strip.now k c.pop_operand-last-in-IsNull-eq1.result) all c.as_mut_slice-in-IsNull-eq1.ensures.value
      c.write_null_flags.auto.row c.write_null_flags.ensures c.in_ok-row-in-IsNull-eq1.ensures.width h (c.in_ok-row-in-IsNull-eq1.ensures.each k h));
}

pub pop_operand-last-requires-in-Abs-eq1 : goal.pop_operand-last-requires-in-Abs-eq1
pop_operand-last-requires-in-Abs-eq1 c = rw c.in-Abs-eq1.is-1 at c.requires.enough

pub writable_row_of_operand-requires-in-Abs-eq1-clause-strip :
    goal.writable_row_of_operand-requires-in-Abs-eq1-clause-strip
writable_row_of_operand-requires-in-Abs-eq1-clause-strip c = c.requires.strip

pub writable_row_of_operand-requires-in-Abs-eq1-clause-ready :
    goal.writable_row_of_operand-requires-in-Abs-eq1-clause-ready
writable_row_of_operand-requires-in-Abs-eq1-clause-ready c =
    of_last (CanReadOperand c.args.windows.now c.args.strip.now) c.args.operands.now.items c.pop_operand-last-in-Abs-eq1.new.operands.items c.pop_operand-last-in-Abs-eq1.result
    c.pop_operand-last-in-Abs-eq1.ensures c.requires.ready

pub returns-in_err-row-in-Abs-eq1 : goal.returns-in_err-row-in-Abs-eq1
returns-in_err-row-in-Abs-eq1 c =
    IfOk-from_err c.from_residual-in_err-row-in-Abs-eq1.result _ c.from_residual-in_err-row-in-Abs-eq1.ensures.0

pub returns-in_ok-row-in-Abs-eq1 : goal.returns-in_ok-row-in-Abs-eq1
returns-in_ok-row-in-Abs-eq1 c = record {
  rest =
      rw c.in-Abs-eq1.is-1 (front_is c.args.operands.now.items c.pop_operand-last-in-Abs-eq1.new.operands.items (c.pop_operand-last-in-Abs-eq1.result ∷ []) 1
      c.pop_operand-last-in-Abs-eq1.ensures refl);
  width =
      let row = c.in_ok-row-in-Abs-eq1.row in
      let all : row.len ≡ length row.items = search rules in
      changed_width row.len c.args.strip.now.width row.items c.as_mut_slice-in-Abs-eq1.result.now
      c.write_absolute_values.new.row all
      c.as_mut_slice-in-Abs-eq1.ensures.value c.write_absolute_values.auto.row c.in_ok-row-in-Abs-eq1.ensures.width;
  each =
      let row = c.in_ok-row-in-Abs-eq1.row in
      let all : row.len ≡ length row.items = search rules in
      let last = back_is c.args.operands.now.items c.pop_operand-last-in-Abs-eq1.new.operands.items (c.pop_operand-last-in-Abs-eq1.result ∷ []) 1
      c.pop_operand-last-in-Abs-eq1.ensures refl in
      rw (c.in-Abs-eq1.is-0, c.in-Abs-eq1.is-1, ← last) (λ k h. changed (λ v. absolute_value_of_cell v) row.len c.args.strip.now.width k row.items
      c.as_mut_slice-in-Abs-eq1.result.now c.write_absolute_values.new.row
      (operand_cell_in_strip_column c.args.windows.now c.args.strip.now k c.pop_operand-last-in-Abs-eq1.result) all c.as_mut_slice-in-Abs-eq1.ensures.value c.write_absolute_values.auto.row
      c.write_absolute_values.ensures c.in_ok-row-in-Abs-eq1.ensures.width h (c.in_ok-row-in-Abs-eq1.ensures.each k h));
}

pub pop_operand-no-requires : goal.pop_operand-no-requires
pop_operand-no-requires c =
    let three = rw c.in-If-eq3.is-1 at c.requires.enough in
    omega (arith, three)

pub pop_operand-yes-requires : goal.pop_operand-yes-requires
pop_operand-yes-requires c =
    let three = rw c.in-If-eq3.is-1 at c.requires.enough in
    more_before 0 c.args.operands.now.items c.pop_operand-no.new.operands.items c.pop_operand-no.result c.pop_operand-no.ensures (omega (arith, three))

pub pop_operand-condition-requires : goal.pop_operand-condition-requires
pop_operand-condition-requires c =
    let three = rw c.in-If-eq3.is-1 at c.requires.enough in
    more_before 0 c.pop_operand-no.new.operands.items c.pop_operand-yes.new.operands.items c.pop_operand-yes.result c.pop_operand-yes.ensures
    (more_before 1 c.args.operands.now.items c.pop_operand-no.new.operands.items c.pop_operand-no.result c.pop_operand-no.ensures three)

pub row_of_three_argument_if-requires : goal.row_of_three_argument_if-requires
row_of_three_argument_if-requires c = record {
  strip = c.requires.strip;
  condition =
      let is = CanReadOperand c.args.windows.now c.args.strip.now in
      of_last is c.pop_operand-yes.new.operands.items c.pop_operand-condition.new.operands.items c.pop_operand-condition.result c.pop_operand-condition.ensures
      (of_front is c.pop_operand-no.new.operands.items c.pop_operand-yes.new.operands.items c.pop_operand-yes.result
      c.pop_operand-yes.ensures
      (of_front is c.args.operands.now.items c.pop_operand-no.new.operands.items c.pop_operand-no.result c.pop_operand-no.ensures c.requires.ready));
  yes =
      let is = CanReadOperand c.args.windows.now c.args.strip.now in
      of_last is c.pop_operand-no.new.operands.items c.pop_operand-yes.new.operands.items c.pop_operand-yes.result
      c.pop_operand-yes.ensures
      (of_front is c.args.operands.now.items c.pop_operand-no.new.operands.items c.pop_operand-no.result c.pop_operand-no.ensures c.requires.ready);
  no =
      of_last (CanReadOperand c.args.windows.now c.args.strip.now) c.args.operands.now.items c.pop_operand-no.new.operands.items c.pop_operand-no.result
      c.pop_operand-no.ensures c.requires.ready;
}

pub returns-in-If-eq3 : goal.returns-in-If-eq3
returns-in-If-eq3 c =
    let strip = c.args.strip.now in
    let windows = c.args.windows.now in
    let cells = λ (k : ℕ) (o : Operand). operand_cell_in_strip_column windows strip k o in
    let condition = c.pop_operand-condition.result in
    let yes = c.pop_operand-yes.result in
    let no = c.pop_operand-no.result in
    let old = c.args.operands.now.items in
    let new = c.pop_operand-condition.new.operands.items in
    let last = condition ∷ yes ∷ no ∷ [] in
    let three = three_last old c.pop_operand-no.new.operands.items c.pop_operand-yes.new.operands.items new
    condition yes no c.pop_operand-no.ensures c.pop_operand-yes.ensures c.pop_operand-condition.ensures in
    if_ok c.row_of_three_argument_if.result (RowHasCellsAlongStrip strip
    (λ k. cell_chosen_by_condition (cells k condition) (cells k yes)
    (cells k no)))
    (IsRowOfFunctionCall strip windows c.args.function c.args.count old new) (λ row made. record {
      rest = rw c.in-If-eq3.is-1 (front_is old new last 3 three refl);
      width = made.width;
      each = rw (c.in-If-eq3.is-0, c.in-If-eq3.is-1, ← back_is old new last 3 three refl) made.each;
    }) c.row_of_three_argument_if.ensures

pub call_result_by_argument_rows-requires : goal.call_result_by_argument_rows-requires
call_result_by_argument_rows-requires c = c.requires

pub returns-in_default : goal.returns-in_default
returns-in_default c = c.call_result_by_argument_rows.ensures
