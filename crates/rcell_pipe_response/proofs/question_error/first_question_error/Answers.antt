use Rattle.std.proofs.Common.{◌∙◌, refl, sym, ap}
use Rattle.std.specs.Option.{option_map}
use Rattle.std.proofs.lemmas.List.{drop_all}
use Rattle.rcell_pipe_request.specs.Questions.{questions_as_values}
use Rattle.rcell_pipe_response.specs.QuestionFrames.{first_question_error}
use Rattle.rcell_pipe_response.proofs.QuestionLemmas.{fault_here, fault_after, none_left}
use Rattle.rcell_pipe_response.proofs.question_error.first_question_error.Goals as goal

pub returns-in-Some : goal.returns-in-Some
returns-in-Some c =
    fault_here c.args.form c.args.names.now (option_map (λ m. m.items) c.args.margins.now) c.args.questions.now
    c.loop-question.question-index c.question-item.result c.loop-question-test.true c.question-item.is c.in-Some.kind
    c.loop-question.invariant
    (sym c.question_error_kind_if_rejected.ensures ∙ c.in-Some.is)

pub loop-question-preserved : goal.loop-question-preserved
loop-question-preserved c =
    fault_after c.args.form c.args.names.now (option_map (λ m. m.items) c.args.margins.now) c.args.questions.now
    c.loop-question.question-index c.question-item.result c.loop-question-test.true c.question-item.is
    c.loop-question.invariant (sym c.question_error_kind_if_rejected.ensures ∙ c.in_default.is)

pub returns : goal.returns
returns c =
    let margins = option_map (λ m. m.items) c.args.margins.now in
    sym (none_left c.args.form c.args.names.now margins)
    ∙ ap (λ l. first_question_error c.args.form c.args.names.now margins (questions_as_values l))
    (sym (drop_all c.loop-question.question-index c.args.questions.now c.loop-question-test.false))
    ∙ c.loop-question.invariant
