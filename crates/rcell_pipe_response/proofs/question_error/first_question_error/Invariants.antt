use Rattle.std.proofs.Common.{◌≡◌, drop}
use Rattle.std.specs.Option.{option_map}
use Rattle.rcell_pipe_request.specs.Questions.{questions_as_values}
use Rattle.rcell_pipe_response.specs.QuestionFrames.{first_question_error}
use Rattle.rcell_pipe_response.proofs.question_error.first_question_error.Given as goal

abbrev pub invariant-loop-question : goal.invariant-loop-question
invariant-loop-question l =
    let margins = option_map (λ m. m.items) l.margins in
    first_question_error l.form l.names margins (questions_as_values (drop l.question-index l.questions))
    ≡ first_question_error l.form l.names margins (questions_as_values l.fn.questions)
