use Rattle.cell_calc_language.specs.parts.Waiting.{waiting_frames}
use Rattle.cell_calc_language.proofs.Steps.{no_more, more}
use Rattle.cell_calc_language.proofs.expression_reader.ExpressionReader.level.Goals as goal

pub returns-in_default-clause-goes : goal.returns-in_default-clause-goes
returns-in_default-clause-goes c = λ s h. no_more s (waiting_frames c.args.self.now) c.args.self.now.steps.items c.args.tokens.now c.args.level h c.in_default.ensures.none

pub returns-clause-goes : goal.returns-clause-goes
returns-clause-goes c = λ s h.
    rw (c.in_ok-push_frame-2.ensures.ok, c.in_ok-push_frame.ensures.ok, c.right_operand_level.ensures)
    (more s (waiting_frames c.args.self.now) c.args.self.now.steps.items c.args.tokens.now c.args.level c.in-Some.operator c.in-Some.rest.now h c.in-Some.ensures.some)
