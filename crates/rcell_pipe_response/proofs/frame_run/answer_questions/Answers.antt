use Rattle.std.proofs.Common.{◌++◌, List, [], None, Some, inl, refl, sym, subst, append-nil}
use Rattle.rcell_pipe_request.specs.Questions.{PatchQuestionValue}
use Rattle.rcell_pipe_response.specs.declared.end.PipeError.TheVariants as errors
use Rattle.rcell_pipe_response.specs.declared.frame_run.ResponseForm.TheVariants.{Frames}
use Rattle.rcell_pipe_frames.specs.FrameBytes.{response_magic, frames_bytes}
use Rattle.rcell_pipe_response.specs.RunEnds.{end_frame_of_successful_run, memory_end, IsRunRequestAccepted}
use Rattle.rcell_pipe_response.specs.RunEnds.{IsResponseToRunRequest}
use Rattle.rcell_pipe_response.specs.RunEnds.{end_frame_as_value}
use Rattle.rcell_pipe_response.proofs.EndLemmas.{finished_frames, ends_as, cut, end_broken}
use Rattle.rcell_pipe_response.proofs.QuestionLemmas.{answered_after}
use Rattle.rcell_pipe_response.proofs.frame_run.answer_questions.Goals as goal

pub returns-in-Ok : goal.returns-in-Ok
returns-in-Ok g c = λ before start read shelves statements frames accepted given appended.
    let answered = c.in-Ok.ensures.ok in
    let all = frames ++ answered.frames in
    let text = answered_after before start frames answered.frames appended answered.appends in
    ends_as (IsResponseToRunRequest Frames read) None (record {
      shelves = shelves;
      statements = statements;
      questions = _;
      accepted = accepted;
      gives = (
        all,
        (
          record {
            frames = frames;
            after = c.args.shelves.now;
            given = given;
            answers = answered.frames;
            answered = answered.answers;
            both = refl;
          },
          refl,
        ),
      );
    }) (λ write. cc)
    (finished_frames all (end_frame_as_value c.end_frame_of_successful_run.result) end_frame_of_successful_run
    c.end_frame_of_successful_run.ensures
    (c.end_response_and_flush.ensures before start (response_magic ++ frames_bytes all) text))

pub returns-in-Memory : goal.returns-in-Memory
returns-in-Memory g c = λ before start read shelves statements frames accepted given appended.
    let stopped = c.in-Err.ensures.err.so_far in
    let answered = stopped.answered in
    let all = frames ++ answered.frames in
    let text = answered_after before start frames answered.frames appended answered.appends in
    ends_as (IsResponseToRunRequest Frames read) (Some errors.MemoryAtQuestion) (record {
      shelves = shelves;
      statements = statements;
      first = stopped.first;
      others = stopped.others;
      accepted = subst (λ (l : List PatchQuestionValue). IsRunRequestAccepted Frames read shelves statements l)
          (sym stopped.whole) accepted;
      gives = (
        all,
        (
          record {
            frames = frames;
            after = c.args.shelves.now;
            given = given;
            answers = answered.frames;
            answered = answered.answers;
            both = refl;
          },
          refl,
        ),
      );
    }) (λ write. cc)
    (finished_frames all (end_frame_as_value c.memory_end.result) (memory_end 0) c.memory_end.ensures
    (c.end_response_and_flush-in-Memory.ensures before start (response_magic ++ frames_bytes all) text))

pub returns-in-Write : goal.returns-in-Write
returns-in-Write g c = λ before start read shelves statements frames accepted given appended.
    let stop = rw c.in-Write.is at c.in-Err.ensures.err in
    let answered = stop.so_far.answered in
    let all = frames ++ answered.frames in
    let text = answered_after before start frames answered.frames appended answered.appends in
    end_broken Frames read shelves statements [] stop.so_far.first stop.so_far.others
    (response_magic ++ frames_bytes all)
    c.outcome_after_failed_write.ensures.reported c.outcome_after_failed_write.ensures.error
    c.outcome_after_failed_write.ensures.status
    (rw (append-nil statements) (subst (λ (l : List PatchQuestionValue). IsRunRequestAccepted Frames read shelves
    statements l)
    (sym stop.so_far.whole) accepted))
    (inl refl) (
      all,
      (
        record {
          frames = frames;
          after = c.args.shelves.now;
          given = given;
          answers = answered.frames;
          answered = answered.answers;
          both = refl;
        },
        refl,
      ),
    )
    (rw stop.failed at text.fails)
    (rw (c.outcome_after_failed_write.ensures.written, c.written.ensures) (cut text))
