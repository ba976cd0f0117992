use Rattle.std.proofs.Common.{rules, arith, ◌≡◌, ◌∷◌, [], length, refl, w32, FitsSigned}
use Rattle.std.proofs.lemmas.Int.{to_z-of_z}
use Rattle.std.proofs.lemmas.Result.{IfOk-from_err}
use Rattle.cell_calc_language.specs.Applied.{negated_cell, logical_negation_of_cell}
use Rattle.cell_calc.specs.parts.Operands.{CanReadOperand, operand_cell_in_strip_column}
use Rattle.cell_calc.proofs.Operands.{front_is, back_is, none_taken, more_before, of_last, of_front, two_last}
use Rattle.cell_calc.proofs.Written.{changed_width, changed}
use Rattle.cell_calc.proofs.along.step_result_on_last_operands.Goals as goal

pub pop_operand-last-requires : goal.pop_operand-last-requires
pop_operand-last-requires c = rw c.in-Negated.is at c.requires.operands.enough

pub writable_row_of_operand-requires-clause-strip : goal.writable_row_of_operand-requires-clause-strip
writable_row_of_operand-requires-clause-strip c = c.requires.operands.strip

pub writable_row_of_operand-requires-clause-ready : goal.writable_row_of_operand-requires-clause-ready
writable_row_of_operand-requires-clause-ready c =
    of_last (CanReadOperand c.args.windows.now c.args.strip.now) c.args.operands.now.items c.pop_operand-last.new.operands.items c.pop_operand-last.result c.pop_operand-last.ensures
    c.requires.operands.ready

pub returns-in_err-row-in-Negated : goal.returns-in_err-row-in-Negated
returns-in_err-row-in-Negated c = IfOk-from_err c.from_residual.result _ c.from_residual.ensures.0

pub returns-in_ok-row-in-Negated : goal.returns-in_ok-row-in-Negated
returns-in_ok-row-in-Negated c = record {
  rest = rw c.in-Negated.is (front_is c.args.operands.now.items c.pop_operand-last.new.operands.items (c.pop_operand-last.result ∷ []) 1 c.pop_operand-last.ensures refl);
  ready =
      let row = c.in_ok-row-in-Negated.row in
      let all : row.len ≡ length row.items = search rules in
      changed_width row.len c.args.strip.now.width row.items c.as_mut_slice.result.now c.negate_row_cells.new.row all c.as_mut_slice.ensures.value
      c.negate_row_cells.auto.row c.in_ok-row-in-Negated.ensures.width;
  each =
      let row = c.in_ok-row-in-Negated.row in
      let all : row.len ≡ length row.items = search rules in
      let last = back_is c.args.operands.now.items c.pop_operand-last.new.operands.items (c.pop_operand-last.result ∷ []) 1 c.pop_operand-last.ensures refl in
      rw (c.in-Negated.is, ← last) (λ k h. changed (λ v. negated_cell v) row.len c.args.strip.now.width k row.items c.as_mut_slice.result.now c.negate_row_cells.new.row
      (operand_cell_in_strip_column c.args.windows.now c.args.strip.now k c.pop_operand-last.result) all
      c.as_mut_slice.ensures.value
      c.negate_row_cells.auto.row c.negate_row_cells.ensures c.in_ok-row-in-Negated.ensures.width h (c.in_ok-row-in-Negated.ensures.each k h));
}

pub pop_operand-last-requires-in-Not : goal.pop_operand-last-requires-in-Not
pop_operand-last-requires-in-Not c = rw c.in-Not.is at c.requires.operands.enough

pub writable_row_of_operand-requires-in-Not-clause-strip : goal.writable_row_of_operand-requires-in-Not-clause-strip
writable_row_of_operand-requires-in-Not-clause-strip c = c.requires.operands.strip

pub writable_row_of_operand-requires-in-Not-clause-ready : goal.writable_row_of_operand-requires-in-Not-clause-ready
writable_row_of_operand-requires-in-Not-clause-ready c =
    of_last (CanReadOperand c.args.windows.now c.args.strip.now) c.args.operands.now.items c.pop_operand-last-in-Not.new.operands.items c.pop_operand-last-in-Not.result
    c.pop_operand-last-in-Not.ensures c.requires.operands.ready

pub returns-in_err-row-in-Not : goal.returns-in_err-row-in-Not
returns-in_err-row-in-Not c =
    IfOk-from_err c.from_residual-in_err-row-in-Not.result _ c.from_residual-in_err-row-in-Not.ensures.0

pub returns-in_ok-row-in-Not : goal.returns-in_ok-row-in-Not
returns-in_ok-row-in-Not c = record {
  rest = rw c.in-Not.is (front_is c.args.operands.now.items c.pop_operand-last-in-Not.new.operands.items (c.pop_operand-last-in-Not.result ∷ []) 1 c.pop_operand-last-in-Not.ensures refl);
  ready =
      let row = c.in_ok-row-in-Not.row in
      let all : row.len ≡ length row.items = search rules in
      changed_width row.len c.args.strip.now.width row.items c.as_mut_slice-in-Not.result.now c.apply_not_to_row_cells.new.row all c.as_mut_slice-in-Not.ensures.value
      c.apply_not_to_row_cells.auto.row c.in_ok-row-in-Not.ensures.width;
  each =
      let row = c.in_ok-row-in-Not.row in
      let all : row.len ≡ length row.items = search rules in
      let last = back_is c.args.operands.now.items c.pop_operand-last-in-Not.new.operands.items (c.pop_operand-last-in-Not.result ∷ []) 1 c.pop_operand-last-in-Not.ensures refl in
      rw (c.in-Not.is, ← last) (λ k h. changed (λ v. logical_negation_of_cell v) row.len c.args.strip.now.width k row.items c.as_mut_slice-in-Not.result.now c.apply_not_to_row_cells.new.row
      (operand_cell_in_strip_column c.args.windows.now c.args.strip.now k c.pop_operand-last-in-Not.result) all c.as_mut_slice-in-Not.ensures.value
      c.apply_not_to_row_cells.auto.row c.apply_not_to_row_cells.ensures c.in_ok-row-in-Not.ensures.width h
      (c.in_ok-row-in-Not.ensures.each k h));
}

pub pop_operand-right-requires : goal.pop_operand-right-requires
pop_operand-right-requires c = let h = rw c.in-Binary.is at c.requires.operands.enough in omega (arith, h)

pub pop_operand-left-requires : goal.pop_operand-left-requires
pop_operand-left-requires c =
    more_before 0 c.args.operands.now.items c.pop_operand-right.new.operands.items c.pop_operand-right.result c.pop_operand-right.ensures (rw c.in-Binary.is at
    c.requires.operands.enough)

pub row_of_operator_values-requires : goal.row_of_operator_values-requires
row_of_operator_values-requires c = record {
  strip = c.requires.operands.strip;
  left =
      let is = CanReadOperand c.args.windows.now c.args.strip.now in
      let before = c.pop_operand-right.new.operands.items in
      of_last is before c.pop_operand-left.new.operands.items c.pop_operand-left.result c.pop_operand-left.ensures
      (of_front is c.args.operands.now.items before c.pop_operand-right.result c.pop_operand-right.ensures
      c.requires.operands.ready);
  right =
      of_last (CanReadOperand c.args.windows.now c.args.strip.now) c.args.operands.now.items c.pop_operand-right.new.operands.items c.pop_operand-right.result
      c.pop_operand-right.ensures c.requires.operands.ready;
}

pub returns-in_err-row-in-Binary : goal.returns-in_err-row-in-Binary
returns-in_err-row-in-Binary c =
    IfOk-from_err c.from_residual-in_err-row-in-Binary.result _ c.from_residual-in_err-row-in-Binary.ensures.0

pub returns-in_err-row-in-Call : goal.returns-in_err-row-in-Call
returns-in_err-row-in-Call c =
    IfOk-from_err c.from_residual-in_err-row-in-Call.result _ c.from_residual-in_err-row-in-Call.ensures.0

pub returns-in_ok-row-in-Binary : goal.returns-in_ok-row-in-Binary
returns-in_ok-row-in-Binary c = record {
  rest =
      let two = two_last c.args.operands.now.items c.pop_operand-right.new.operands.items c.pop_operand-left.new.operands.items c.pop_operand-left.result c.pop_operand-right.result
      c.pop_operand-right.ensures c.pop_operand-left.ensures in
      rw c.in-Binary.is (front_is c.args.operands.now.items c.pop_operand-left.new.operands.items (c.pop_operand-left.result ∷ c.pop_operand-right.result ∷ []) 2 two refl);
  ready = c.in_ok-row-in-Binary.ensures.width;
  each =
      let two = two_last c.args.operands.now.items c.pop_operand-right.new.operands.items c.pop_operand-left.new.operands.items c.pop_operand-left.result c.pop_operand-right.result
      c.pop_operand-right.ensures c.pop_operand-left.ensures in
      let last = back_is c.args.operands.now.items c.pop_operand-left.new.operands.items (c.pop_operand-left.result ∷ c.pop_operand-right.result ∷ []) 2 two refl in
      rw (c.in-Binary.is, ← last) c.in_ok-row-in-Binary.ensures.each;
}

pub call_result_on_last_operands-requires : goal.call_result_on_last_operands-requires
call_result_on_last_operands-requires c = rw c.in-Call.is at c.requires.operands

pub returns-in_ok-row-in-Call : goal.returns-in_ok-row-in-Call
returns-in_ok-row-in-Call c = record {
  rest = rw c.in-Call.is c.in_ok-row-in-Call.ensures.rest;
  ready = c.in_ok-row-in-Call.ensures.width;
  each = rw c.in-Call.is c.in_ok-row-in-Call.ensures.each;
}

pub returns-in-Number : goal.returns-in-Number
returns-in-Number c = record {
  rest = rw c.in-Number.is (none_taken c.args.operands.now.items);
  ready = rw c.in-Number.is at c.requires.step;
  each = rw c.in-Number.is (λ k h. refl);
}

pub returns-in-Map : goal.returns-in-Map
returns-in-Map c = record {
  rest = rw c.in-Map.is (none_taken c.args.operands.now.items);
  ready =
      let fits : FitsSigned w32 c.in-Map.down = search rules in
      let ready = rw c.in-Map.is at c.requires.step in
      rw (to_z-of_z w32 c.in-Map.down fits) ready;
  each =
      let fits : FitsSigned w32 c.in-Map.down = search rules in
      let fits_right : FitsSigned w32 c.in-Map.right = search rules in
      rw (c.in-Map.is, to_z-of_z w32 c.in-Map.down fits, to_z-of_z w32 c.in-Map.right fits_right) (λ k h. refl);
}
