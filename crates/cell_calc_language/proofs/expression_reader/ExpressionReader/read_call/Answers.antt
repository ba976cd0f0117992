use Rattle.std.proofs.Common.{sym, ap, ◌∙◌}
use Rattle.cell_calc_grammar.specs.Function.{function_with_name}
use Rattle.cell_calc_language.specs.parts.Waiting.{waiting_frames}
use Rattle.cell_calc_language.proofs.Steps.{unknown_call, empty_call, refused_empty, first_argument}
use Rattle.cell_calc_language.proofs.expression_reader.ExpressionReader.read_call.Goals as goal

pub returns-in_default-clause-goes : goal.returns-in_default-clause-goes
returns-in_default-clause-goes c = λ s h.
    let f = ap function_with_name (sym c.bytes.ensures.value) ∙ sym c.function_with_name.ensures ∙ c.in_default.is in
    unknown_call s (waiting_frames c.args.self.now) c.args.self.now.steps.items c.args.name.now c.args.tokens c.args.inside.now h c.requires f

pub returns-then-accepts_argument_count-clause-goes : goal.returns-then-accepts_argument_count-clause-goes
returns-then-accepts_argument_count-clause-goes c = λ s h.
    let f = ap function_with_name (sym c.bytes.ensures.value) ∙ sym c.function_with_name.ensures ∙ c.in-Some.is in
    c.end.ensures.goes s
    (empty_call s (waiting_frames c.args.self.now) c.args.self.now.steps.items c.args.name.now c.args.tokens c.args.inside.now h c.requires c.in-Some.function c.in-Some-tokens_after_sign.rest.now f c.in-Some-tokens_after_sign.ensures.some (sym c.if-accepts_argument_count.ensures))

pub returns-else-accepts_argument_count-clause-goes : goal.returns-else-accepts_argument_count-clause-goes
returns-else-accepts_argument_count-clause-goes c = λ s h.
    let f = ap function_with_name (sym c.bytes.ensures.value) ∙ sym c.function_with_name.ensures ∙ c.in-Some.is in
    refused_empty s (waiting_frames c.args.self.now) c.args.self.now.steps.items c.args.name.now c.args.tokens c.args.inside.now h c.requires c.in-Some.function c.in-Some-tokens_after_sign.rest.now f c.in-Some-tokens_after_sign.ensures.some (sym c.if-accepts_argument_count.ensures)

pub returns-in_ok-push_frame-in-None-clause-goes : goal.returns-in_ok-push_frame-in-None-clause-goes
returns-in_ok-push_frame-in-None-clause-goes c = λ s h.
    let f = ap function_with_name (sym c.bytes.ensures.value) ∙ sym c.function_with_name.ensures ∙ c.in-Some.is in
    c.enter.ensures.goes s
    (rw c.in_ok-push_frame-in-None.ensures.ok
    (first_argument s (waiting_frames c.args.self.now) c.args.self.now.steps.items c.args.name.now c.args.tokens c.args.inside.now h c.requires c.in-Some.function f c.in-None.ensures.none))
