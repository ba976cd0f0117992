use Rattle.cell_calc_language.specs.parts.Waiting.{waiting_frames}
use Rattle.cell_calc_language.proofs.Steps.{negated, inverted, joined, chosen, unclosed}
use Rattle.cell_calc_language.proofs.expression_reader.ExpressionReader.resume.Goals as goal

pub returns-in-Negated-clause-goes : goal.returns-in-Negated-clause-goes
returns-in-Negated-clause-goes c = λ s h. c.end.ensures.goes s (negated s (waiting_frames c.args.self.now) c.args.self.now.steps.items c.args.tokens.now (rw c.in-Negated.is at h))

pub returns-in-Not-clause-goes : goal.returns-in-Not-clause-goes
returns-in-Not-clause-goes c = λ s h. c.end-in-Not.ensures.goes s (inverted s (waiting_frames c.args.self.now) c.args.self.now.steps.items c.args.tokens.now (rw c.in-Not.is at h))

pub returns-in-Level-clause-goes : goal.returns-in-Level-clause-goes
returns-in-Level-clause-goes c = λ s h. c.level.ensures.goes s (rw c.in-Level.is at h)

pub returns-in_ok-push_step-in-Joined-clause-goes : goal.returns-in_ok-push_step-in-Joined-clause-goes
returns-in_ok-push_step-in-Joined-clause-goes c = λ s h.
    c.level-in-Joined.ensures.goes s
    (rw c.in_ok-push_step-in-Joined.ensures.ok
    (joined s (waiting_frames c.args.self.now) c.args.self.now.steps.items c.args.tokens.now c.in-Joined.level c.in-Joined.operator (rw c.in-Joined.is at h)))

pub returns-in-Choice-clause-goes : goal.returns-in-Choice-clause-goes
returns-in-Choice-clause-goes c = λ s h. c.choice.ensures.goes s (rw c.in-Choice.is at h)

pub returns-in-AfterQuestion-clause-goes : goal.returns-in-AfterQuestion-clause-goes
returns-in-AfterQuestion-clause-goes c = λ s h. c.otherwise.ensures.goes s (rw c.in-AfterQuestion.is at h)

pub returns-in-AfterColon-clause-goes : goal.returns-in-AfterColon-clause-goes
returns-in-AfterColon-clause-goes c = λ s h. c.end-in-AfterColon.ensures.goes s (chosen s (waiting_frames c.args.self.now) c.args.self.now.steps.items c.args.tokens.now (rw c.in-AfterColon.is at h))

pub returns-in-None-clause-goes : goal.returns-in-None-clause-goes
returns-in-None-clause-goes c = λ s h. unclosed s (waiting_frames c.args.self.now) c.args.self.now.steps.items c.args.tokens.now (rw c.in-Parenthesis.is at h) c.in-None.ensures.none

pub returns-in-Call-clause-goes : goal.returns-in-Call-clause-goes
returns-in-Call-clause-goes c = λ s h. c.argument.ensures.goes s (rw c.in-Call.is at h)
