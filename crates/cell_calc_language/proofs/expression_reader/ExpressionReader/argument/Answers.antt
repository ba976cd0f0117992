use Rattle.std.proofs.Common.{sym}
use Rattle.cell_calc_language.specs.parts.Waiting.{waiting_frames}
use Rattle.cell_calc_language.proofs.Steps.{accepted_call, refused_call, unended_call, another_argument}
use Rattle.cell_calc_language.proofs.expression_reader.ExpressionReader.argument.Goals as goal

pub returns-then-accepts_argument_count-clause-goes : goal.returns-then-accepts_argument_count-clause-goes
returns-then-accepts_argument_count-clause-goes c = λ s h.
    c.end.ensures.goes s
    (accepted_call s (waiting_frames c.args.self.now) c.args.self.now.steps.items c.args.tokens.now c.args.function c.args.from c.args.before c.in-Some.count c.in-Some.ensures.1 h c.in-Some-tokens_after_sign.rest.now c.in-Some-tokens_after_sign.ensures.some (sym c.if-accepts_argument_count.ensures))

pub returns-in-Some-tokens_after_sign-clause-goes : goal.returns-in-Some-tokens_after_sign-clause-goes
returns-in-Some-tokens_after_sign-clause-goes c = λ s h.
    refused_call s (waiting_frames c.args.self.now) c.args.self.now.steps.items c.args.tokens.now c.args.function c.args.from c.args.before c.in-Some.count c.in-Some.ensures.1 h c.in-Some-tokens_after_sign.rest.now c.in-Some-tokens_after_sign.ensures.some (sym c.if-accepts_argument_count.ensures)

pub returns-in_default-tokens_after_sign-2-clause-goes : goal.returns-in_default-tokens_after_sign-2-clause-goes
returns-in_default-tokens_after_sign-2-clause-goes c = λ s h.
    unended_call s (waiting_frames c.args.self.now) c.args.self.now.steps.items c.args.tokens.now c.args.function c.args.from c.args.before c.in-Some.count c.in-Some.ensures.1 h c.in_default-tokens_after_sign.ensures.none c.in_default-tokens_after_sign-2.ensures.none

pub returns-clause-goes : goal.returns-clause-goes
returns-clause-goes c = λ s h.
    c.enter.ensures.goes s
    (rw c.in_ok-push_frame.ensures.ok
    (another_argument s (waiting_frames c.args.self.now) c.args.self.now.steps.items c.args.tokens.now c.args.function c.args.from c.args.before c.in-Some.count c.in-Some.ensures.1 h c.in-Some-tokens_after_sign-2.rest.now c.in-Some-tokens_after_sign-2.ensures.some))
