use Rattle.std.proofs.Common.{◌≡◌, ◌++◌, ◌∷◌, All, List, [], ℕ, Some, false, inr, sym, refl, subst}
use Rattle.rcell_pipe_request.specs.Questions.{question_as_value, questions_as_values}
use Rattle.rcell_pipe_response.specs.declared.end.PipeError.TheVariants as errors
use Rattle.rcell_pipe_frames.specs.FrameBytes.{response_magic, frames_bytes}
use Rattle.rcell_pipe_response.specs.QuestionFrames.{margins_in_tile_at_end, names_of_all_maps}
use Rattle.rcell_pipe_response.specs.QuestionFrames.{question_has_unknown_map}
use Rattle.rcell_pipe_response.specs.RunEnds.{memory_end, IsRunRequestAccepted, IsResponseToRunRequest}
use Rattle.rcell_pipe_response.specs.RunEnds.{end_frame_as_value}
use Rattle.rcell_pipe_response.specs.declared.frame_run.ResponseForm.TheVariants.{Frames}
use Rattle.rcell_pipe_response.proofs.EndLemmas.{finished_frames, ends_as, cut, end_broken}
use Rattle.rcell_pipe_response.proofs.QuestionLemmas.{all_known, names_at_end, gives_none}
use Rattle.rcell_pipe_response.proofs.frame_run.run_statements_and_questions.Goals as goal

pub answer_questions-requires : goal.answer_questions-requires
answer_questions-requires g c =
    let given = rw c.statements.ensures at c.in-Ok.ensures.ok.given in
    subst (λ (names : List (List ℕ)). All (λ q. question_has_unknown_map names (question_as_value q) ≡ false)
    c.args.questions.now)
    (sym (names_at_end c.args.script.now c.args.shelves c.execute_statements_into_frames.new.shelves
    c.in-Ok.ensures.ok.frames given))
    (all_known (names_of_all_maps c.args.shelves.outer.names c.args.script.now)
    (margins_in_tile_at_end c.args.shelves c.args.script.now) c.args.questions.now c.requires.known)

pub returns-in-Ok : goal.returns-in-Ok
returns-in-Ok g c = λ read accepted.
    let given = c.in-Ok.ensures.ok in
    let appended = given.appends.adds _ _ response_magic c.begin_response-block.ensures in
    c.answer_questions.ensures _ _ read c.args.shelves c.args.script.now given.frames accepted
    (rw c.statements.ensures at given.given) appended

pub returns-in-Memory : goal.returns-in-Memory
returns-in-Memory g c = λ read accepted.
    let stopped = rw c.in-Memory.is at c.in-Err.ensures.err in
    let given = stopped.given in
    let questions = questions_as_values c.args.questions.now in
    let appended = given.appends.adds _ _ response_magic c.begin_response-block.ensures in
    let whole : IsRunRequestAccepted Frames read c.args.shelves (stopped.first ++ stopped.statement ∷ stopped.others)
    questions =
    rw (stopped.whole, c.statements.ensures) accepted in
    ends_as (IsResponseToRunRequest Frames read) (Some (errors.MemoryAt c.in-Memory.line)) (record {
      shelves = c.args.shelves;
      first = stopped.first;
      statement = stopped.statement;
      others = stopped.others;
      questions = questions;
      accepted = whole;
      line_is = stopped.line_is;
      gives = (given.frames, (gives_none c.args.shelves stopped.after stopped.first given.frames given.given, refl));
    }) (λ write. cc)
    (finished_frames given.frames (end_frame_as_value c.memory_end.result)
    (memory_end c.in-Memory.line) c.memory_end.ensures
    (c.end_response_and_flush.ensures _ _ (response_magic ++ frames_bytes given.frames) appended))

pub returns : goal.returns
returns g c = λ read accepted.
    let stopped = rw c.in-Write.is at c.in-Err.ensures.err in
    let given = stopped.given in
    let questions = questions_as_values c.args.questions.now in
    let whole : IsRunRequestAccepted Frames read c.args.shelves (stopped.first ++ stopped.others) questions =
    rw (stopped.whole, c.statements.ensures) accepted in
    let appended = given.appends.adds _ _ response_magic c.begin_response-block.ensures in
    end_broken Frames read c.args.shelves stopped.first stopped.others [] questions
    (response_magic ++ frames_bytes given.frames)
    c.outcome_after_failed_write.ensures.reported c.outcome_after_failed_write.ensures.error
    c.outcome_after_failed_write.ensures.status whole (inr refl)
    (given.frames, (gives_none c.args.shelves stopped.after stopped.first given.frames given.given, refl))
    (rw stopped.failed at appended.fails)
    (rw (c.outcome_after_failed_write.ensures.written, c.written.ensures) (cut appended))
