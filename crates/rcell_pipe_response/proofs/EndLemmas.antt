-- How a run ends.
use Rattle.std.proofs.Common.{◌≡◌, ◌≢◌, ◌∙◌, ℕ, Bool, true, false, not, List, [], ◌++◌, length, Option, Some, None}
use Rattle.std.proofs.Common.{Result, Ok, ◌∷◌, ◌⊎◌, inr, refl, sym, ap, subst, append_assoc, append-nil, ◌||◌}
use Rattle.cell_core_devices.specs.Device.{SinkFaults, append_if_known, faults_after_put, faults_after_flush}
use Rattle.cell_core_devices.specs.Device.{has_failed}
use Rattle.cell_core_devices.specs.Blocks.{capped_byte_count, OutputBlockValue, IsTextAppendedToSink}
use Rattle.cell_core_devices.specs.Blocks.{IsTextAppendedThroughBlock}
use Rattle.rcell_script.specs.ReadScripts.{IsScriptFault}
use Rattle.rcell_script.specs.declared.script_fault.ScriptFault.{ScriptFault}
use Rattle.rcell_script.specs.declared.script_fault.ScriptKind.{ScriptKind}
use Rattle.rcell_script.specs.declared.script_fault.ScriptKind.TheVariants as script_kinds
use Rattle.rcell_pipe_response.specs.parts.ScriptKinds.{is_memory_error}
use Rattle.rcell_script.specs.declared.statement.Statement.{Statement}
use Rattle.cell_ascii_writer.proofs.PutLemmas.{appended_put}
use Rattle.rcell_tile.specs.TileRuns.{RunShelvesValue}
use Rattle.rcell_pipe_request.specs.declared.error.RequestError.{RequestError}
use Rattle.rcell_pipe_request.specs.Questions.{PatchQuestionValue}
use Rattle.rcell_pipe_request.specs.Requests.{RunRequestValue}
use Rattle.rcell_pipe_response.specs.declared.end.PipeError.{PipeError}
use Rattle.rcell_pipe_response.specs.declared.end.PipeError.TheVariants as errors
use Rattle.rcell_pipe_response.specs.declared.frame_run.PipeOutcome.{PipeOutcome}
use Rattle.rcell.specs.runs.Execution.{IsStoppedBeforeStatement, IsOutputPrefixWritten}
use Rattle.rcell.specs.runs.Outcomes.{IsFullOutputWritten}
use Rattle.rcell_pipe_response.specs.declared.frame_run.ResponseForm.{ResponseForm}
use Rattle.rcell_pipe_response.specs.declared.frame_run.ResponseForm.TheVariants.{Frames, Text}
use Rattle.rcell_pipe_frames.specs.Frames.{OutputFrame, StatementsGiveFrames}
use Rattle.rcell_pipe_frames.specs.FrameBytes.{RunEndValue, frames_bytes, run_end_frame_bytes, response_magic}
use Rattle.rcell_pipe_frames.specs.FrameBytes.{response_bytes}
use Rattle.rcell_pipe_response.specs.declared.frame_run.SinkState.{SinkState}
use Rattle.rcell_pipe_response.specs.declared.frame_run.SinkState.TheVariants.{Flushed, Unflushed, Refused}
use Rattle.rcell_pipe_response.specs.RunEnds.{exit_status_of_pipe_run, end_frame_of_rejected_script}
use Rattle.rcell_pipe_response.specs.RunEnds.{IsRunRequestAccepted, IsPartialResponseBeforeEnd, IsResponseToRunRequest}
use Rattle.rcell_pipe_response.specs.RunEnds.{IsTextPrefixWritten, IsTextAcceptedBySink, IsResponseWritten}
use Rattle.rcell_pipe_response.specs.RunEnds.{AreSinkCallsForError, IsResponseOfOnlyEnd}
use Rattle.rcell_pipe_response.specs.FrameEndings.{run_error_with_sink_state, IsTextSent, IsTextSentWithOutcome}
use Rattle.rcell_pipe_response.specs.FrameEndings.{IsErrorOfRejectedScript, IsEndOfResponseSent}
use Rattle.rcell_pipe_response.specs.parts.Flushed.{IsSinkFlushedOnce}

or-true : (b : Bool) → (b || true) ≡ true
or-true true = refl
or-true false = refl

-- the output is a prefix of the text if the sink stopped
pub cut : {before now : Option (List ℕ)} {start faults : SinkFaults} {text : List ℕ} {block : OutputBlockValue}
    → IsTextAppendedToSink before start text now faults block → IsTextPrefixWritten before now text block.written
cut a = record { front = a.front; rest = a.rest; whole = a.whole; taken = a.taken; count = a.count }

-- the sink accepted a text, and was flushed after it
pub sent_flushed : (sending : SinkState) (before : Option (List ℕ)) (after : SinkFaults) (text : List ℕ)
    {taken now : Option (List ℕ)}
    {start middle : SinkFaults} {written : ℕ} → taken ≡ append_if_known before text → middle ≡ start
    → written ≡ capped_byte_count
    (length text) → now ≡ taken
    → IsSinkFlushedOnce sending middle after → IsTextSent sending before start now after text written
sent_flushed Flushed before after text all first count same flushed =
    (same ∙ all, flushed ∙ ap (λ (f : SinkFaults). faults_after_flush f false) first, count)
sent_flushed Unflushed before after text all first count same flushed =
    (same ∙ all, flushed ∙ ap (λ (f : SinkFaults). faults_after_flush f true) first, count)
sent_flushed Refused before after text all first count same flushed = absurd flushed

-- the last frame was put after the content of the block
module _ {S : Type 0} {taken : S → Option (List ℕ)} {faults : S → SinkFaults} {old mid now : S}
    {block middle new : OutputBlockValue} {end : List ℕ}
    (put : IsTextAppendedThroughBlock taken faults old block end mid middle)
    (emptied : IsTextAppendedThroughBlock taken faults mid middle [] now new)
    {before : Option (List ℕ)} {start : SinkFaults} {text : List ℕ}
    (p : IsTextAppendedToSink before start text (taken old) (faults old) block) where
  all_put : IsTextAppendedToSink before start (text ++ end) (taken now) (faults now) new
  all_put = subst (λ (t : List ℕ). IsTextAppendedToSink before start t (taken now) (faults now) new) (append-nil (text
      ++ end))
      (emptied.adds before start (text ++ end) (put.adds before start text p))

  pub end_refused : new.failed ≡ true → IsTextSent Refused before start (taken now) (faults now) (text
      ++ end) new.written
  end_refused failed = (rw failed at all_put.fails, cut all_put)

  pub end_flushed : (sending : SinkState) (flushed : SinkFaults) {after : Option (List ℕ)} → new.failed ≡ false
      → new.held ≡ [] → after ≡ taken now
      → IsSinkFlushedOnce sending (faults now) flushed → IsTextSent sending before start after flushed (text
      ++ end) new.written
  end_flushed sending flushed good none same flush =
      let done = appended_put all_put good none in
      sent_flushed sending before flushed (text ++ end) done.0 done.1.1 done.1.0 same flush

-- the frames are followed by the last frame
pub finished_frames : {before now : Option (List ℕ)} {start after : SinkFaults} {error : Option PipeError} {outcome : PipeOutcome} (frames : List OutputFrame) (one end : RunEndValue) → one ≡ end
    → IsTextSentWithOutcome before start now after error ((response_magic ++ frames_bytes frames) ++ run_end_frame_bytes one) outcome → IsTextSentWithOutcome before start now after error (response_bytes frames end) outcome
finished_frames {before} {now} {start} {after} {error} {outcome} frames one end same finished =
    subst (λ (t : List ℕ). IsTextSentWithOutcome before start now after error t outcome)
    (ap (λ (e : RunEndValue). (response_magic ++ frames_bytes frames) ++ run_end_frame_bytes e) same ∙ append_assoc response_magic (frames_bytes frames) (run_end_frame_bytes end)) finished

-- the response ends as the finished run does
pub ends_as : (says : List ℕ → Option PipeError → Type 0) {before now : Option (List ℕ)} {start after : SinkFaults}
    (reported : Option PipeError) {text : List ℕ} {outcome : PipeOutcome} → says text reported
    → (reported ≡ Some errors.Write → ⊥) → IsTextSentWithOutcome before start now after reported text outcome
    → IsEndOfResponseSent says before start now after outcome
ends_as says {before} {now} {start} {after} reported {text} {outcome} is fine finished =
    let same = finished.reported_is in
    record {
      text = text;
      is = subst (says text) (sym same) is;
      finished = record {
        sending = finished.sending;
        reported_is = refl;
        error_is = finished.error_is ∙ ap (λ (e : Option PipeError). run_error_with_sink_state e finished.sending)
            (sym same);
        status = finished.status;
        sent = finished.sent;
      };
      settled = λ write. absurd (fine (sym same ∙ write));
    }

-- the sink failed in a statement of the run
pub end_broken : (form : ResponseForm) (read : Result RunRequestValue RequestError) {before now : Option (List ℕ)}
    {start after : SinkFaults} {outcome : PipeOutcome} (shelves : RunShelvesValue) (first others : List Statement)
    (answered unanswered : List PatchQuestionValue) (text : List ℕ)
    → outcome.reported ≡ Some errors.Write → outcome.error ≡ Some errors.Write
    → outcome.status ≡ exit_status_of_pipe_run outcome.error
    → IsRunRequestAccepted form read shelves (first ++ others) (answered ++ unanswered)
    → (others ≡ []) ⊎ (answered ≡ []) → IsPartialResponseBeforeEnd form shelves first answered text
    → after ≡ faults_after_put start true → IsTextPrefixWritten before now text outcome.written
    → IsEndOfResponseSent (IsResponseToRunRequest form read) before start now after outcome
end_broken form read shelves first others answered unanswered text reported error status accepted order gives failed
    cut = record {
      text = text;
      is = subst (IsResponseToRunRequest form read text) (sym reported)
          (record {
            shelves = shelves;
            first = first;
            others = others;
            answered = answered;
            unanswered = unanswered;
            accepted = accepted;
            in_order = order;
            gives = gives;
          });
      finished = record { sending = Refused; reported_is = refl; error_is = error; status = status; sent = (failed, cut) };
      settled = λ write. refl;
    }

-- a run that writes text finishes, runs out of memory at a statement or is cut by the sink
module _ (read : Result RunRequestValue RequestError) (shelves : RunShelvesValue) (statements : List Statement)
    (questions : List PatchQuestionValue) (accepted : IsRunRequestAccepted Text read shelves statements questions)
    (written : ℕ) where
  accepted_parts : (parts : List Statement) → parts ≡ statements
      → IsRunRequestAccepted Text read shelves parts questions
  accepted_parts parts whole =
      subst (λ (s : List Statement). IsRunRequestAccepted Text read shelves s questions) (sym whole) accepted

  pub text_done : {before between now : Option (List ℕ)} {start middle after : SinkFaults} {outcome : PipeOutcome}
      (done : IsFullOutputWritten shelves.outer statements before between written) → middle ≡ start
      → IsTextSentWithOutcome before middle now after None done.text outcome
      → IsEndOfResponseSent (IsResponseToRunRequest Text read) before start now after outcome
  text_done {before} {between} {now} {start} {middle} {after} {outcome} done same finished =
      ends_as (IsResponseToRunRequest Text read) None
      (record {
        shelves = shelves;
        statements = statements;
        questions = questions;
        accepted = accepted;
        gives = done.output;
      }) (λ write. cc)
      (subst (λ (f : SinkFaults). IsTextSentWithOutcome before f now after None done.text outcome) same finished)

  pub text_stopped : {before between now : Option (List ℕ)} {start middle after : SinkFaults} {outcome : PipeOutcome}
      (line : ℕ) (s : IsStoppedBeforeStatement shelves.outer statements before between written line) → middle ≡ start
      → IsTextSentWithOutcome before middle now after (Some (errors.MemoryAt line)) s.text outcome
      → IsEndOfResponseSent (IsResponseToRunRequest Text read) before start now after outcome
  text_stopped {before} {between} {now} {start} {middle} {after} {outcome} line s same finished =
      ends_as (IsResponseToRunRequest Text read) (Some (errors.MemoryAt line))
      (record {
        shelves = shelves;
        first = s.first;
        statement = s.statement;
        others = s.others;
        questions = questions;
        accepted = accepted_parts (s.first ++ s.statement ∷ s.others) s.whole;
        line_is = s.line_is;
        gives = (s.after, s.executed);
      })
      (λ write. cc)
      (subst (λ (f : SinkFaults). IsTextSentWithOutcome before f now after
      (Some (errors.MemoryAt line)) s.text outcome) same finished)

  pub text_failed : {before now : Option (List ℕ)} {start after : SinkFaults} {outcome : PipeOutcome}
      (w : IsOutputPrefixWritten shelves.outer statements before now written) → after ≡ faults_after_put start true
      → outcome.reported ≡ Some errors.Write → outcome.error ≡ Some errors.Write
      → outcome.status ≡ exit_status_of_pipe_run outcome.error
      → outcome.written ≡ written → IsEndOfResponseSent (IsResponseToRunRequest Text read) before start now after
      outcome
  text_failed w failed reported error status count = end_broken Text read shelves w.first w.others [] questions
      (w.prefix ++ w.rest) reported error status (accepted_parts (w.first ++ w.others) w.whole) (inr refl)
      (w.after, w.executed) failed
      (record { front = w.prefix; rest = w.rest; whole = refl; taken = w.taken; count = count ∙ w.count })

-- an error for which `is_memory_error` is false is not an error of memory
pub not_memory : (kind : ScriptKind) → is_memory_error kind ≡ false → kind ≢ script_kinds.Memory
not_memory kind not same = absurd (cc (not, ap is_memory_error same))

abbrev pub of_run : RunShelvesValue → List ℕ → List PatchQuestionValue → RunRequestValue
of_run shelves script questions = record { shelves = shelves; script = script; questions = questions }

-- a script that is rejected has its response
pub rejection : (form : ResponseForm) (shelves : RunShelvesValue) (script : List ℕ)
    (questions : List PatchQuestionValue)
    (fault : ScriptFault) (error : PipeError) (end : RunEndValue)
    → IsScriptFault shelves.outer.names script fault → IsErrorOfRejectedScript fault error end
    → IsResponseToRunRequest form (Ok (of_run shelves script questions)) (response_bytes [] end) (Some error)
rejection form shelves script questions fault (errors.Script error) end first is = record {
  shelves = shelves;
  script = script;
  questions = questions;
  request = refl;
  first = subst (λ (f : ScriptFault). IsScriptFault shelves.outer.names script f) (sym is.0) first;
  bytes = ap (λ (e : RunEndValue). response_bytes [] e) (is.1 ∙ ap end_frame_of_rejected_script (sym is.0));
}
rejection form shelves script questions fault errors.Memory end first is = ap
    (λ (e : RunEndValue). response_bytes [] e) is
rejection form shelves script questions fault (errors.Request error) end first is = absurd is
rejection form shelves script questions fault (errors.Halo halo) end first is = absurd is
rejection form shelves script questions fault (errors.Question error) end first is = absurd is
rejection form shelves script questions fault (errors.MemoryAt line) end first is = absurd is
rejection form shelves script questions fault errors.MemoryAtQuestion end first is = absurd is
rejection form shelves script questions fault errors.Write end first is = absurd is

-- a rejection is not a failed write
pub not_write : (fault : ScriptFault) (error : PipeError) (end : RunEndValue) → IsErrorOfRejectedScript fault error end → Some error ≡ Some errors.Write → ⊥
not_write fault (errors.Script error) end is same = cc
not_write fault errors.Memory end is same = cc
not_write fault (errors.Request error) end is same = is
not_write fault (errors.Halo halo) end is same = is
not_write fault (errors.Question error) end is same = is
not_write fault (errors.MemoryAt line) end is same = is
not_write fault errors.MemoryAtQuestion end is same = is
not_write fault errors.Write end is same = is

-- ---- the outcome of a response, by how it ended

-- all bytes of a text were accepted
taken_whole : (error : Option PipeError) (before : Option (List ℕ)) (text : List ℕ) {now : Option (List ℕ)}
    {written : ℕ}
    → (error ≡ Some errors.Write → ⊥) → now ≡ append_if_known before text → written ≡ capped_byte_count (length text)
    → IsTextAcceptedBySink text before now error written
taken_whole None before text fine all count = (all, count)
taken_whole (Some (errors.Request error)) before text fine all count = (all, count)
taken_whole (Some (errors.Script error)) before text fine all count = (all, count)
taken_whole (Some (errors.Halo fault)) before text fine all count = (all, count)
taken_whole (Some (errors.Question error)) before text fine all count = (all, count)
taken_whole (Some errors.Memory) before text fine all count = (all, count)
taken_whole (Some (errors.MemoryAt line)) before text fine all count = (all, count)
taken_whole (Some errors.MemoryAtQuestion) before text fine all count = (all, count)
taken_whole (Some errors.Write) before text fine all count = absurd (fine refl)

used_well : (error : Option PipeError) (start : SinkFaults) {after : SinkFaults} → (error ≡ Some errors.Write → ⊥)
    → after ≡ faults_after_flush start false
    → AreSinkCallsForError error start after
used_well None start fine flushed = flushed
used_well (Some (errors.Request error)) start fine flushed = flushed
used_well (Some (errors.Script error)) start fine flushed = flushed
used_well (Some (errors.Halo fault)) start fine flushed = flushed
used_well (Some (errors.Question error)) start fine flushed = flushed
used_well (Some errors.Memory) start fine flushed = flushed
used_well (Some (errors.MemoryAt line)) start fine flushed = flushed
used_well (Some errors.MemoryAtQuestion) start fine flushed = flushed
used_well (Some errors.Write) start fine flushed = absurd (fine refl)

module _ (says : List ℕ → Option PipeError → Type 0) {before now : Option (List ℕ)} {start after : SinkFaults}
    {outcome : PipeOutcome}
    (h : IsEndOfResponseSent says before start now after outcome) where
  sent_as : (sending : SinkState) → h.finished.sending ≡ sending
      → IsTextSent sending before start now after h.text outcome.written
  sent_as sending e = subst (λ (s : SinkState). IsTextSent s before start now after h.text outcome.written) e
      h.finished.sent

  error_as : (sending : SinkState) → h.finished.sending ≡ sending
      → outcome.error ≡ run_error_with_sink_state outcome.reported sending
  error_as sending e = h.finished.error_is ∙ ap (run_error_with_sink_state outcome.reported) e

  -- a response that was sent completely does not report a failed write
  reports : (sending : SinkState) → h.finished.sending ≡ sending → (sending ≡ Refused → ⊥)
      → outcome.reported ≡ Some errors.Write → ⊥
  reports sending e whole write = whole (sym e ∙ h.settled write)

  pub ended_taken : IsTextAcceptedBySink h.text before now outcome.error outcome.written
  ended_taken = by h.finished.sending refl
    where
      by : (sending : SinkState) → h.finished.sending ≡ sending
          → IsTextAcceptedBySink h.text before now outcome.error outcome.written
      by Flushed e =
          let sent = sent_as Flushed e in
          subst (λ (r : Option PipeError). IsTextAcceptedBySink h.text before now r outcome.written)
          (sym (error_as Flushed e))
          (taken_whole outcome.reported before h.text (reports Flushed e (λ r. cc)) sent.0 sent.2)
      by Unflushed e =
          let sent = sent_as Unflushed e in
          subst (λ (r : Option PipeError). IsTextAcceptedBySink h.text before now r outcome.written)
          (sym (error_as Unflushed e))
          (record { front = h.text; rest = []; whole = append-nil h.text; taken = sent.0; count = sent.2 })
      by Refused e =
          subst (λ (r : Option PipeError). IsTextAcceptedBySink h.text before now r outcome.written)
          (sym (error_as Refused e))
          (sent_as Refused e).1

  pub responded : IsResponseWritten says before now outcome.reported outcome.error outcome.written
  responded = record { response = h.text; is = h.is; taken = ended_taken }

  pub ended_used : AreSinkCallsForError outcome.error start after
  ended_used = by h.finished.sending refl
    where
      by : (sending : SinkState) → h.finished.sending ≡ sending → AreSinkCallsForError outcome.error start after
      by Flushed e =
          subst (λ (r : Option PipeError). AreSinkCallsForError r start after) (sym (error_as Flushed e))
          (used_well outcome.reported start (reports Flushed e (λ r. cc)) (sent_as Flushed e).1)
      by Unflushed e =
          subst (λ (r : Option PipeError). AreSinkCallsForError r start after) (sym (error_as Unflushed e))
          (false, (sent_as Unflushed e).1)
      by Refused e =
          subst (λ (r : Option PipeError). AreSinkCallsForError r start after) (sym (error_as Refused e))
          (true, (sent_as Refused e).0)

  -- if no put failed, the whole response was accepted
  pub ended_whole : outcome.error ≡ Some errors.Write → after.refused ≡ false
      → (outcome.reported ≢ Some errors.Write) × IsResponseWritten says before now outcome.reported None outcome.written
  ended_whole write good = by h.finished.sending refl
    where
      by : (sending : SinkState) → h.finished.sending ≡ sending
          → (outcome.reported ≢ Some errors.Write) × IsResponseWritten says before now outcome.reported None
          outcome.written
      by Flushed e = absurd (reports Flushed e (λ r. cc) (sym (error_as Flushed e) ∙ write))
      by Unflushed e =
          let sent = sent_as Unflushed e in
          (reports Unflushed e (λ r. cc), record { response = h.text; is = h.is; taken = (sent.0, sent.2) })
      by Refused e = absurd (cc (ap (λ (f : SinkFaults). f.refused) (sent_as Refused e).0, good))

  -- with a failed write the sink has failed; otherwise it was flushed once
  pub ended_failed : outcome.error ≡ Some errors.Write → has_failed after ≡ true
  ended_failed write = by h.finished.sending refl
    where
      by : (sending : SinkState) → h.finished.sending ≡ sending → has_failed after ≡ true
      by Flushed e = absurd (reports Flushed e (λ r. cc) (sym (error_as Flushed e) ∙ write))
      by Unflushed e = ap has_failed (sent_as Unflushed e).1 ∙ or-true start.refused
      by Refused e = ap has_failed (sent_as Refused e).0

  pub ended_flushed : outcome.error ≢ Some errors.Write → after ≡ faults_after_flush start false
  ended_flushed fine = by h.finished.sending refl
    where
      by : (sending : SinkState) → h.finished.sending ≡ sending → after ≡ faults_after_flush start false
      by Flushed e = (sent_as Flushed e).1
      by Unflushed e = absurd (fine (error_as Unflushed e))
      by Refused e = absurd (fine (error_as Refused e))

  pub ended_reported : outcome.error ≢ Some errors.Write → outcome.error ≡ outcome.reported
  ended_reported fine = by h.finished.sending refl
    where
      by : (sending : SinkState) → h.finished.sending ≡ sending → outcome.error ≡ outcome.reported
      by Flushed e = error_as Flushed e
      by Unflushed e = absurd (fine (error_as Unflushed e))
      by Refused e = absurd (fine (error_as Refused e))

-- the response of a rejected run is only its last frame
pub only_end_of_run : (form : ResponseForm) (read : Result RunRequestValue RequestError) (response : List ℕ)
    (error : Option PipeError)
    → IsResponseToRunRequest form read response error → IsResponseOfOnlyEnd response error
only_end_of_run form read response None is = tt
only_end_of_run form read response (Some (errors.Request error)) is = is.1
only_end_of_run form read response (Some (errors.Script error)) is = is.bytes
only_end_of_run form read response (Some (errors.Halo fault)) is = is.bytes
only_end_of_run form read response (Some (errors.Question error)) is = is.bytes
only_end_of_run form read response (Some errors.Memory) is = is
only_end_of_run form read response (Some (errors.MemoryAt line)) is = tt
only_end_of_run form read response (Some errors.MemoryAtQuestion) is = tt
only_end_of_run form read response (Some errors.Write) is = tt
