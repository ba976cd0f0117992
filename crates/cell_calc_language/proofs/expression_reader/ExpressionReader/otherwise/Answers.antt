use Rattle.cell_calc_language.specs.parts.Waiting.{waiting_frames}
use Rattle.cell_calc_language.proofs.Steps.{colon_missing, colon}
use Rattle.cell_calc_language.proofs.expression_reader.ExpressionReader.otherwise.Goals as goal

pub returns-in_default-clause-goes : goal.returns-in_default-clause-goes
returns-in_default-clause-goes c = λ s h. colon_missing s (waiting_frames c.args.self.now) c.args.self.now.steps.items c.args.tokens.now h c.in_default.ensures.none

pub returns-clause-goes : goal.returns-clause-goes
returns-clause-goes c = λ s h.
    c.enter.ensures.goes s
    (rw c.in_ok-push_frame.ensures.ok (colon s (waiting_frames c.args.self.now) c.args.self.now.steps.items c.args.tokens.now c.in-Some.rest.now h c.in-Some.ensures.some))
