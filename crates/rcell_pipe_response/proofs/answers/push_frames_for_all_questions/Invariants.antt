use Rattle.std.proofs.Common.{take}
use Rattle.rcell_pipe_request.specs.Questions.{questions_as_values}
use Rattle.rcell_pipe_response.specs.parts.Answering.{AreAllQuestionFramesAppended}
use Rattle.rcell_pipe_response.proofs.answers.push_frames_for_all_questions.Given as goal

abbrev pub invariant-loop-i : goal.invariant-loop-i
invariant-loop-i g l =
    AreAllQuestionFramesAppended g.W.Sink.taken g.W.Sink.faults l.shelves (questions_as_values (take l.i l.questions))
    l.fn.out l.fn.block l.out l.block
