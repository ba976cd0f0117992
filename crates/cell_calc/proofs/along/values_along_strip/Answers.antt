use Rattle.std.proofs.Common.{arith, ◌++◌, [], ◌∷◌, length, ap, ◌∙◌}
use Rattle.std.proofs.lemmas.List.Elements.{All-same, All-push, All-take}
use Rattle.std.proofs.lemmas.Result.{IfOk-from_err}
use Rattle.cell_calc.specs.parts.Operands.{CanReadOperand}
use Rattle.cell_calc.proofs.Operands.{enough_at, enough_more, step_more, no_steps, only_one, end_frame_as_value}
use Rattle.cell_calc.proofs.Operands.{of_last}
use Rattle.cell_calc.proofs.along.values_along_strip.Goals as goal

pub step_result_on_last_operands-requires-clause-operands : goal.step_result_on_last_operands-requires-clause-operands
step_result_on_last_operands-requires-clause-operands c = record {
  strip = c.requires.strip;
  enough = enough_at c.args.steps.now c.loop-step.step-index _ _ c.loop-step-test.true c.loop-step.invariant.enough;
  ready = c.loop-step.invariant.ready;
}

pub writable_row_of_operand-requires : goal.writable_row_of_operand-requires
writable_row_of_operand-requires c = record {
  strip = c.requires.strip;
  ready = of_last (CanReadOperand c.args.windows.now c.args.strip.now) c.loop-step.operands.items c.pop_operand-last.new.operands.items c.pop_operand-last.result c.pop_operand-last.ensures c.loop-step.invariant.ready;
}

pub returns-in_err-operand : goal.returns-in_err-operand
returns-in_err-operand c = IfOk-from_err c.from_residual.result _ c.from_residual.ensures.0

pub returns-in_err-push : goal.returns-in_err-push
returns-in_err-push c = IfOk-from_err c.from_residual-in_err-push.result _ c.from_residual-in_err-push.ensures.0

pub returns-in_err-row : goal.returns-in_err-row
returns-in_err-row c = IfOk-from_err c.from_residual-in_err-row.result _ c.from_residual-in_err-row.ensures.0

pub pop_operand-last-requires : goal.pop_operand-last-requires
pop_operand-last-requires c =
    let none = no_steps c.args.steps.now c.loop-step.step-index c.loop-step-test.false in
    let one = rw none at c.loop-step.invariant.enough in
    omega (arith, one)

pub loop-step-preserved : goal.loop-step-preserved
loop-step-preserved c =
    let so_far = c.loop-step.invariant in
    let i = c.loop-step.step-index in
    let steps = c.args.steps.now in
    let old = c.loop-step.operands.items in
    let made = c.in_ok-operand.ensures in
    let o = c.in_ok-operand.operand in
    let is = c.in_ok-push.ensures.items ∙ ap (λ l. l ++ o ∷ []) made.rest in
    let lt = c.loop-step-test.true in
    record {
      ready = All-same (CanReadOperand c.args.windows.now c.args.strip.now) c.push.new.self.items _ is
          (All-push (CanReadOperand c.args.windows.now c.args.strip.now) _ o (All-take (CanReadOperand c.args.windows.now c.args.strip.now) _ old so_far.ready) made.ready);
      enough = enough_more steps i _ old c.push.new.self.items o lt so_far.enough is;
      each = λ k h. step_more c.args.windows.now c.args.strip.now steps i k _ old c.push.new.self.items o _ lt (enough_at steps i (length old) _ lt so_far.enough) is
          (made.each k h) (so_far.each k h);
    }

pub returns : goal.returns
returns c =
    let so_far = c.loop-step.invariant in
    let i = c.loop-step.step-index in
    let none = no_steps c.args.steps.now i c.loop-step-test.false in
    let one = rw none at so_far.enough in
    let only = only_one c.loop-step.operands.items c.pop_operand-last.new.operands.items c.pop_operand-last.result one c.pop_operand-last.ensures in
    record {
      width = c.in_ok-row.ensures.width;
      each = λ k h. ap (λ v. v ∷ []) (c.in_ok-row.ensures.each k h)
          ∙ end_frame_as_value c.args.windows.now c.args.strip.now c.args.steps.now i k c.loop-step.operands.items c.pop_operand-last.result _ none only (so_far.each k h);
    }
