use Rattle.cell_calc_language.specs.parts.Waiting.{waiting_frames}
use Rattle.cell_calc_language.proofs.Steps.{entered}
use Rattle.cell_calc_language.proofs.expression_reader.ExpressionReader.enter.Goals as goal

pub returns-clause-goes : goal.returns-clause-goes
returns-clause-goes c = λ s h. rw (c.in_ok-push_frame-2.ensures.ok, c.in_ok-push_frame.ensures.ok) (entered s (waiting_frames c.args.self.now) c.args.self.now.steps.items c.args.tokens.now h)
