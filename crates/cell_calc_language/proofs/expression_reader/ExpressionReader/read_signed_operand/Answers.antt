use Rattle.cell_calc_language.specs.parts.Waiting.{waiting_frames}
use Rattle.cell_calc_language.proofs.Steps.{minus, exclamation, opened, no_operand}
use Rattle.cell_calc_language.proofs.expression_reader.ExpressionReader.read_signed_operand.Goals as goal

pub returns-in_ok-push_frame-in-Minus-clause-goes : goal.returns-in_ok-push_frame-in-Minus-clause-goes
returns-in_ok-push_frame-in-Minus-clause-goes c = λ s h.
    rw c.in_ok-push_frame-in-Minus.ensures.ok (minus s (waiting_frames c.args.self.now) c.args.self.now.steps.items c.args.tokens.now c.args.rest.now h (rw c.in-Minus.is at c.requires))

pub returns-in_ok-push_frame-in-Exclamation-clause-goes : goal.returns-in_ok-push_frame-in-Exclamation-clause-goes
returns-in_ok-push_frame-in-Exclamation-clause-goes c = λ s h.
    rw c.in_ok-push_frame-in-Exclamation.ensures.ok (exclamation s (waiting_frames c.args.self.now) c.args.self.now.steps.items c.args.tokens.now c.args.rest.now h (rw c.in-Exclamation.is at c.requires))

pub returns-in_ok-push_frame-in-OpenParenthesis-clause-goes :
    goal.returns-in_ok-push_frame-in-OpenParenthesis-clause-goes
returns-in_ok-push_frame-in-OpenParenthesis-clause-goes c = λ s h.
    c.enter.ensures.goes s
    (rw c.in_ok-push_frame-in-OpenParenthesis.ensures.ok (opened s (waiting_frames c.args.self.now) c.args.self.now.steps.items c.args.tokens.now c.args.rest.now h (rw c.in-OpenParenthesis.is at c.requires)))

pub returns-in_default-clause-goes : goal.returns-in_default-clause-goes
returns-in_default-clause-goes c = λ s h.
    no_operand s (waiting_frames c.args.self.now) c.args.self.now.steps.items c.args.tokens.now c.args.sign h c.requires.0 c.in_default.not-Minus c.in_default.not-Exclamation c.in_default.not-OpenParenthesis
