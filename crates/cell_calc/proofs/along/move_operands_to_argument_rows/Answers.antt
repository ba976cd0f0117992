use Rattle.std.proofs.Common.{arith, ◌≡◌, ◌≤◌, length, refl}
use Rattle.std.proofs.lemmas.List.Elements.{All-nil, All-push, All-take}
use Rattle.std.proofs.lemmas.Result.{IfOk-from_err}
use Rattle.cell_calc.specs.parts.Operands.{CanReadOperand}
use Rattle.cell_calc.proofs.Operands.{front_more, gather_more, gathered, none_taken, none_left, more_left, of_last, all_reversed}
use Rattle.cell_calc.proofs.along.move_operands_to_argument_rows.Goals as goal

pub operands-init : goal.operands-init
operands-init c =
    let old = c.args.operands.now.items in
    let none = c.clear.ensures.items in
    record {
      rest = none_taken old;
      width = rw none (All-nil (λ cells. length cells.items ≡ c.args.strip.now.width));
      each = λ k h. rw (none, none_left old) refl;
    }

pub pop_operand-last-requires : goal.pop_operand-last-requires
pop_operand-last-requires c =
    more_left c.args.operands.now.items c.operands.operands.items c.operands.counter c.args.count c.operands-test.true c.requires.enough c.operands.invariant.rest

pub writable_row_of_operand-requires-clause-strip : goal.writable_row_of_operand-requires-clause-strip
writable_row_of_operand-requires-clause-strip c = c.requires.strip

pub writable_row_of_operand-requires-clause-ready : goal.writable_row_of_operand-requires-clause-ready
writable_row_of_operand-requires-clause-ready c =
    let is = CanReadOperand c.args.windows.now c.args.strip.now in
    of_last is c.operands.operands.items c.pop_operand-last.new.operands.items c.pop_operand-last.result c.pop_operand-last.ensures
    (rw c.operands.invariant.rest (All-take is _ c.args.operands.now.items c.requires.ready))

pub returns-in_err-row : goal.returns-in_err-row
returns-in_err-row c = IfOk-from_err c.from_residual.result _ c.from_residual.ensures.0

pub returns-in_err-push : goal.returns-in_err-push
returns-in_err-push c = IfOk-from_err c.from_residual-in_err-push.result _ c.from_residual-in_err-push.ensures.0

pub operands-preserved : goal.operands-preserved
operands-preserved c =
    let so_far = c.operands.invariant in
    let old = c.args.operands.now.items in
    let le : c.operands.counter ≤ length old = omega (arith, c.operands-test.true, c.requires.enough) in
    record {
      rest = front_more old c.operands.operands.items c.pop_operand-last.new.operands.items c.pop_operand-last.result c.operands.counter le so_far.rest c.pop_operand-last.ensures;
      width = rw c.in_ok-push.ensures.items (All-push (λ cells. length cells.items ≡ c.args.strip.now.width) c.operands.spare.arguments.items c.in_ok-row.row so_far.width c.in_ok-row.ensures.width);
      each = λ k h. rw c.in_ok-push.ensures.items (gather_more (λ cells. cells.items) c.args.windows.now c.args.strip.now k old c.operands.operands.items c.pop_operand-last.new.operands.items c.pop_operand-last.result
          c.operands.counter c.operands.spare.arguments.items c.in_ok-row.row le so_far.rest c.pop_operand-last.ensures (so_far.each k h) (c.in_ok-row.ensures.each k h));
    }

pub returns : goal.returns
returns c = record {
  rest =
      let all : c.operands.counter ≡ c.args.count = omega (arith, c.operands-test.false, c.operands.auto.counter-end) in
      rw (← all) c.operands.invariant.rest;
  width = rw c.reverse.ensures.items (all_reversed (λ cells. length cells.items ≡ c.args.strip.now.width) c.operands.spare.arguments.items c.operands.invariant.width);
  each =
      let all : c.operands.counter ≡ c.args.count = omega (arith, c.operands-test.false, c.operands.auto.counter-end) in
      rw (← all, c.reverse.ensures.items) (λ k h. gathered (λ cells. cells.items) k c.operands.spare.arguments.items _ (c.operands.invariant.each k h));
}
