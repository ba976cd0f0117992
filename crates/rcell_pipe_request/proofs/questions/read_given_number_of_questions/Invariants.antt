use Rattle.std.proofs.Common.{◌≡◌, length, []}
use Rattle.rcell_pipe_request.specs.Questions.{next_question_reading, questions_as_values}
use Rattle.rcell_pipe_request.proofs.StepLemmas.{StepsLeadOn}
use Rattle.rcell_pipe_request.proofs.questions.read_given_number_of_questions.Given as goal

abbrev pub invariant-loop-i : goal.invariant-loop-i
invariant-loop-i g l =
    StepsLeadOn (next_question_reading l.maps) [] l.count l.fn.feed l.i (questions_as_values l.questions.items) l.feed
    × (length (questions_as_values l.questions.items) ≡ l.i)
