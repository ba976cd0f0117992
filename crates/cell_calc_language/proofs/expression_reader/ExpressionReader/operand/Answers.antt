use Rattle.cell_calc_language.specs.parts.Waiting.{waiting_frames}
use Rattle.cell_calc_language.proofs.Steps.{no_token, number_read}
use Rattle.cell_calc_language.proofs.expression_reader.ExpressionReader.operand.Goals as goal

pub returns-in_default-clause-goes : goal.returns-in_default-clause-goes
returns-in_default-clause-goes c = λ s h. no_token s (waiting_frames c.args.self.now) c.args.self.now.steps.items c.args.tokens.now h c.in_default.ensures.none

pub returns-in-Number-clause-goes : goal.returns-in-Number-clause-goes
returns-in-Number-clause-goes c = λ s h.
    c.end.ensures.goes s (number_read s (waiting_frames c.args.self.now) c.args.self.now.steps.items c.args.tokens.now c.in-Number.n c.in-Some.placed.now c.in-Some.rest.now h c.in-Some.ensures.some c.in-Number.is)
