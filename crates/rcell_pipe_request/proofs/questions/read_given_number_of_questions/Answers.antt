use Rattle.std.proofs.Common.{[], arith}
use Rattle.rcell_pipe_request.specs.Questions.{next_question_reading, questions_as_values}
use Rattle.rcell_pipe_request.proofs.StepLemmas.{one-step-on, all-steps-done, step-fails}
use Rattle.rcell_pipe_request.proofs.questions.read_given_number_of_questions.Goals as goal

pub returns-in-Err : goal.returns-in-Err
returns-in-Err g c =
    step-fails (next_question_reading c.args.maps) [] c.args.count c.args.feed.now c.loop-i.i
    (questions_as_values c.loop-i.questions.items) c.loop-i.feed c.loop-i.invariant.0 c.in-Err.stop _ (omega arith)
    c.in-Err.ensures.reads

pub loop-i-preserved : goal.loop-i-preserved
loop-i-preserved g c = (
  one-step-on (next_question_reading c.args.maps) [] c.args.count c.args.feed.now c.loop-i.i
      (questions_as_values c.loop-i.questions.items) c.loop-i.feed c.loop-i.invariant.0 _ _ (omega arith)
      c.in-Ok.ensures.reads,
  omega (arith, c.in-Ok.ensures.count, c.loop-i.invariant.1),
)

pub returns : goal.returns
returns g c =
    all-steps-done (next_question_reading c.args.maps) [] c.args.count c.args.feed.now c.loop-i.i
    (questions_as_values c.loop-i.questions.items) c.loop-i.feed c.loop-i.invariant.0 (omega arith)
