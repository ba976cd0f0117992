use Rattle.std.proofs.Common.{◌≡◌, ◌∙◌, None, Ok, refl, sym}
use Rattle.rcell_pipe_request.specs.Questions.{questions_as_values}
use Rattle.rcell_pipe_response.specs.QuestionFrames.{question_error_after_statements}
use Rattle.rcell_pipe_response.proofs.EndLemmas.{of_run}
use Rattle.rcell_pipe_response.proofs.frame_run.run_script.Goals as goal

pub returns-in-Text : goal.returns-in-Text
returns-in-Text g c = λ text denoted.
    let questions = questions_as_values c.args.questions.now in
    let none : question_error_after_statements c.args.form c.args.shelves c.args.script.now questions ≡ None =
    sym c.in-Ok-None.ensures ∙ c.in-Ok-None.field-0-is in
    rw c.in-Text.is (c.run_statements_as_text.ensures (Ok (of_run c.args.shelves text questions)) questions (record {
      script = text;
      request = refl;
      denoted = denoted;
      enough = c.requires.enough;
      known =
          rw c.in-Text.is at none;
    }))
