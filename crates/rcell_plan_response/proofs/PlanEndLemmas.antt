-- The ends of responses.
use Rattle.std.proofs.Common.{◌≡◌, ◌∙◌, ℕ, suc, Bool, true, false, List, [], ◌∷◌, ◌++◌, Option, Some, None}
use Rattle.std.proofs.Common.{Result, Ok, Err, refl, sym, ap, subst, append_assoc}
use Rattle.std.specs.Prelude.{◌≢◌, length}
use Rattle.cell_core_devices.specs.declared.source.Asked.{Asked}
use Rattle.cell_core_devices.specs.declared.source.Asked.TheVariants.{Ended}
use Rattle.std.specs.Option.{IsNone, is_some}
use Rattle.cell_core_devices.specs.Device.{SinkFaults, ComingBytes, bytes_to_come_after_reading, has_failed}
use Rattle.cell_core_devices.specs.Device.{append_if_known}
use Rattle.cell_core_values.specs.Answers.{◌>>=◌}
use Rattle.rcell_script.specs.Scripts.{IsScript}
use Rattle.rcell_script.specs.ReadScripts.{IsScriptFault}
use Rattle.rcell_script.specs.ScriptLaw.{ScriptsHaveNoFault, TextDenotesAtMostOneScript}
use Rattle.rcell_script.specs.declared.statement.Statement.{Statement}
use Rattle.rcell_script.specs.declared.script_fault.ScriptFault.{ScriptFault}
use Rattle.rcell_tile.specs.TileRuns.{RunShelvesValue}
use Rattle.rcell_pipe_request.specs.declared.error.FieldReadingStop.{FieldReadingStop}
use Rattle.rcell_pipe_request.specs.declared.error.FieldReadingStop.TheVariants as field_stops
use Rattle.rcell_pipe_request.specs.declared.error.RequestStop.{RequestStop}
use Rattle.rcell_pipe_request.specs.declared.error.RequestStop.TheVariants as stops
use Rattle.rcell_pipe_request.specs.declared.error.RequestError.{RequestError}
use Rattle.rcell_pipe_request.specs.RequestFields.{RequestFieldReading}
use Rattle.rcell_pipe_request.specs.Feeds.{RequestFieldReadingFails, FailsWithErrorPosition, RequestReaderValue}
use Rattle.rcell_pipe_request.specs.Feeds.{request_reader_may_hold_bytes}
use Rattle.rcell_pipe_request.specs.Feeds.{left, read_state_after_field_stop}
use Rattle.rcell_pipe_request.specs.Feeds.{read_state_after_request_stop}
use Rattle.rcell_pipe_request.specs.Supposed.{source_may_hold}
use Rattle.rcell_pipe_request.specs.Questions.{PatchQuestionValue}
use Rattle.rcell_pipe_request.specs.Requests.{RunRequestValue, request_stop_at_position}
use Rattle.rcell_pipe_response.specs.declared.end.PipeError.{PipeError}
use Rattle.rcell_pipe_response.specs.declared.end.PipeError.TheVariants as errors
use Rattle.rcell_pipe_response.specs.declared.frame_run.PipeOutcome.{PipeOutcome}
use Rattle.rcell_pipe_frames.specs.FrameBytes.{RunEndValue, response_magic, response_bytes, run_end_frame_bytes}
use Rattle.rcell_pipe_response.specs.RunEnds.{exit_status_of_pipe_run, end_frame_of_successful_run}
use Rattle.rcell_pipe_response.specs.RunEnds.{end_frame_of_rejected_script, memory_end, IsResponseToRunRequest}
use Rattle.rcell_pipe_response.specs.RunEnds.{IsResponseOfAcceptedRequest, IsTextAcceptedBySink, IsResponseOfOnlyEnd}
use Rattle.rcell_pipe_response.specs.RunEnds.{AreFramesOfStatementsAndQuestions, IsRunRequestAccepted}
use Rattle.rcell_pipe_response.specs.RunEnds.{halo_fault_of_statements}
use Rattle.rcell_pipe_response.specs.FrameEndings.{IsTextSentWithOutcome, IsErrorOfRejectedScript, IsEndOfResponseSent}
use Rattle.rcell_pipe_response.specs.QuestionFrames.{names_of_all_maps, question_error_after_statements}
use Rattle.rcell_pipe_response.specs.declared.frame_run.ResponseForm.TheVariants.{Frames}
use Rattle.rcell_pipe_response.proofs.EndLemmas.{ended_failed, ended_reported, ended_taken, of_run}
use Rattle.rcell_pipe_response.specs.declared.frame_run.ResponseForm.{ResponseForm}
use Rattle.rcell_plan_response.specs.declared.responding.RunForm.{RunForm}
use Rattle.rcell_plan_response.specs.declared.responding.RequestForm.{RequestForm}
use Rattle.rcell_plan_response.specs.declared.responding.RequestForm.TheVariants as form
use Rattle.rcell_plan.specs.declared.planning.Plan.{Plan}
use Rattle.rcell_plan.specs.Plans.{plans_of_statements, needs_of_given_maps, needs_after_command}
use Rattle.rcell_plan.specs.declared.needs.MapNeed.{MapNeed}
use Rattle.rcell_plan_response.specs.PlanRequests.{PlanRequestValue, plan_request_reading}
use Rattle.rcell_plan_response.specs.PlanFrames.{plans_bytes, plan_response}
use Rattle.rcell_plan_response.specs.PlanEnds.{IsPlanResponse}
use Rattle.rcell_pipe_join.specs.JoinEnds.{IsJoinResponse}
use Rattle.rcell_pipe_join.specs.JoinRequests.{JoinRequestValue, join_request_reading, join_request_or_error}
use Rattle.rcell_plan_response.specs.Responses.{request_form_reading, run_request_or_error, plan_request_or_error, IsResponseToRequestOfForm, IsRequestAccepted, BytesAskForFrames}
use Rattle.rcell_plan_response.specs.Responses.{IsReadStateForError, WritesFramesUnlessFailed, response_form_of_run}
use Rattle.rcell_plan_response.specs.Responses.{run_request_of_form_reading}
use Rattle.rcell_plan_response.specs.parts.RequestStops.{pipe_error_of_request_stop, end_frame_of_request_stop}
use Rattle.rcell_plan_response.specs.parts.Answered.{IsResponseToFeed, IsResponseToSource}

-- ---- the written response

-- a response that ends under a condition ends under a weaker condition
pub ends_more : (says more : List ℕ → Option PipeError → Type 0)
    → ((response : List ℕ) (error : Option PipeError) → says response error → more response error)
    → {before now : Option (List ℕ)} {start after : SinkFaults} {outcome : PipeOutcome}
    → IsEndOfResponseSent says before start now after outcome → IsEndOfResponseSent more before start now after outcome
ends_more says more on {outcome = outcome} h = record {
  text = h.text;
  is = on h.text outcome.reported h.is;
  finished = h.finished;
  settled = h.settled;
}

-- the frames of a plan are followed by the last frame
pub finished_plans : {before now : Option (List ℕ)} {start after : SinkFaults} {error : Option PipeError}
    {outcome : PipeOutcome} (frames : List ℕ) (one end : RunEndValue) → one ≡ end
    → IsTextSentWithOutcome before start now after error ((response_magic ++ frames) ++ run_end_frame_bytes one) outcome
    → IsTextSentWithOutcome before start now after error (response_magic ++ frames ++ run_end_frame_bytes end) outcome
finished_plans {before} {now} {start} {after} {error} {outcome} frames one end same finished =
    subst (λ (t : List ℕ). IsTextSentWithOutcome before start now after error t outcome)
    (ap (λ (e : RunEndValue). (response_magic ++ frames) ++ run_end_frame_bytes e) same
    ∙ append_assoc response_magic frames (run_end_frame_bytes end)) finished

-- there is a plan for each statement
pub length-plans : (known : List (List MapNeed)) (statements : List Statement)
    → length (plans_of_statements known statements) ≡ length statements
length-plans known [] = refl
length-plans known (s ∷ ss) = ap suc (length-plans (needs_after_command known s.command) ss)

-- the response has the names of all maps, and the plans of the statements
pub finished_plan : {before now : Option (List ℕ)} {start after : SinkFaults} {outcome : PipeOutcome}
    (names all : List (List ℕ)) (statements : List Statement) (plans : List Plan)
    → all ≡ names_of_all_maps names statements
    → plans ≡ plans_of_statements (needs_of_given_maps (length names)) statements
    → IsTextSentWithOutcome before start now after None (response_magic ++ plans_bytes all plans statements
    ++ run_end_frame_bytes end_frame_of_successful_run) outcome
    → IsTextSentWithOutcome before start now after None (plan_response names statements) outcome
finished_plan {before} {now} {start} {after} {outcome} names all statements plans all_is plans_is finished =
    subst (λ (t : List ℕ). IsTextSentWithOutcome before start now after None t outcome)
    (λ i. response_magic ++ plans_bytes (all_is i) (plans_is i) statements
    ++ run_end_frame_bytes end_frame_of_successful_run)
    finished

-- ---- rejected scripts

pub plan_rejection : (names : List (List ℕ)) (script : List ℕ) (fault : ScriptFault) (error : PipeError)
    (end : RunEndValue)
    → IsScriptFault names script fault → IsErrorOfRejectedScript fault error end
    → IsPlanResponse (Ok (record { names = names; script = script })) (response_bytes [] end) (Some error)
plan_rejection names script fault (errors.Script error) end first is = record {
  names = names;
  script = script;
  request = refl;
  first = subst (λ (f : ScriptFault). IsScriptFault names script f) (sym is.0) first;
  bytes = ap (λ (e : RunEndValue). response_bytes [] e) (is.1 ∙ ap end_frame_of_rejected_script (sym is.0));
}
plan_rejection names script fault errors.Memory end first is = ap (λ (e : RunEndValue). response_bytes [] e) is
plan_rejection names script fault (errors.Request error) end first is = absurd is
plan_rejection names script fault (errors.Halo halo) end first is = absurd is
plan_rejection names script fault (errors.Question error) end first is = absurd is
plan_rejection names script fault (errors.MemoryAt line) end first is = absurd is
plan_rejection names script fault errors.MemoryAtQuestion end first is = absurd is
plan_rejection names script fault errors.Write end first is = absurd is

-- ---- requests that were not read

-- a stop is not a failed write
pub stop_fine : (stop : RequestStop) → Some (pipe_error_of_request_stop stop) ≡ Some errors.Write → ⊥
stop_fine stops.Memory is = cc
stop_fine (stops.Error error) is = cc

pub stopped_run : (run : RunForm) (stop : RequestStop) (old new : RequestReaderValue)
    → FailsWithErrorPosition stop old new (run_request_of_form_reading run)
    → (c : ComingBytes) → request_reader_may_hold_bytes c new ≡ true → (request_reader_may_hold_bytes c old ≡ true)
    × IsResponseToRunRequest (response_form_of_run run) (run_request_or_error run (left c old))
    (response_bytes [] (end_frame_of_request_stop stop))
    (Some (pipe_error_of_request_stop stop))
stopped_run run stops.Memory old new fails c is = (fails c is, refl)
stopped_run run (stops.Error error) old new fails c is =
    let at = fails c is in (at.0, (ap (λ r. r >>= λ request. Ok request.0) at.1, refl))

pub stopped_plan : (stop : RequestStop) (old new : RequestReaderValue)
    → FailsWithErrorPosition stop old new plan_request_reading
    → (c : ComingBytes) → request_reader_may_hold_bytes c new ≡ true → (request_reader_may_hold_bytes c old ≡ true)
    × IsPlanResponse (plan_request_or_error (left c old)) (response_bytes [] (end_frame_of_request_stop stop))
    (Some (pipe_error_of_request_stop stop))
stopped_plan stops.Memory old new fails c is = (fails c is, refl)
stopped_plan (stops.Error error) old new fails c is =
    let at = fails c is in (at.0, (ap (λ r. r >>= λ plan. Ok plan.0) at.1, refl))

pub stopped_join : (stop : RequestStop) (old new : RequestReaderValue)
    → FailsWithErrorPosition stop old new join_request_reading
    → (c : ComingBytes) → request_reader_may_hold_bytes c new ≡ true → (request_reader_may_hold_bytes c old ≡ true)
    × IsJoinResponse (join_request_or_error (left c old)) (response_bytes [] (end_frame_of_request_stop stop))
    (Some (pipe_error_of_request_stop stop))
stopped_join stops.Memory old new fails c is = (fails c is, refl)
stopped_join (stops.Error error) old new fails c is =
    let at = fails c is in (at.0, (ap (λ r. r >>= λ request. Ok request.0) at.1, refl))

-- out of memory is a response to a request of any form
pub memory_form : (form : RequestFieldReading RequestForm)
    → IsResponseToRequestOfForm form (response_bytes [] (memory_end 0)) (Some errors.Memory)
memory_form (Err kind) = refl
memory_form (Ok (form.Run run, rest)) = refl
memory_form (Ok (form.Plan, rest)) = refl
memory_form (Ok (form.Join, rest)) = refl

-- the first eight bytes could not be read
pub stopped_form : (stop : FieldReadingStop) (old new : RequestReaderValue)
    → RequestFieldReadingFails stop old new request_form_reading
    → (c : ComingBytes) → request_reader_may_hold_bytes c new ≡ true → (request_reader_may_hold_bytes c old ≡ true)
    × IsResponseToRequestOfForm (request_form_reading (left c old)) (response_bytes []
    (end_frame_of_request_stop (request_stop_at_position 0 0 stop)))
    (Some (pipe_error_of_request_stop (request_stop_at_position 0 0 stop)))
stopped_form field_stops.Memory old new fails c is = (fails c is, memory_form (request_form_reading (left c old)))
stopped_form (field_stops.Error kind) old new fails c is =
    let response = response_bytes [] (end_frame_of_request_stop
    (request_stop_at_position 0 0 (field_stops.Error kind))) in
    let error = Some (pipe_error_of_request_stop (request_stop_at_position 0 0 (field_stops.Error kind))) in
    let at = fails c is in (
      at.0,
      subst (λ (f : RequestFieldReading RequestForm). IsResponseToRequestOfForm f response error) (sym at.1)
          (refl, refl),
    )

-- the response to a stop is only its last frame
pub only_stop : (stop : RequestStop) → IsResponseOfOnlyEnd (response_bytes [] (end_frame_of_request_stop stop))
    (Some (pipe_error_of_request_stop stop))
only_stop stops.Memory = refl
only_stop (stops.Error error) = refl

-- the response to a rejected plan is only its last frame
pub only_end_of_plan : (read : Result PlanRequestValue RequestError) (response : List ℕ) (error : Option PipeError)
    → IsPlanResponse read response error → IsResponseOfOnlyEnd response error
only_end_of_plan read response None is = tt
only_end_of_plan read response (Some (errors.Request error)) is = is.1
only_end_of_plan read response (Some (errors.Script error)) is = is.bytes
only_end_of_plan read response (Some (errors.Halo fault)) is = absurd is
only_end_of_plan read response (Some (errors.Question error)) is = absurd is
only_end_of_plan read response (Some errors.Memory) is = is
only_end_of_plan read response (Some (errors.MemoryAt line)) is = tt
only_end_of_plan read response (Some errors.MemoryAtQuestion) is = tt
only_end_of_plan read response (Some errors.Write) is = tt

pub only_end_of_join : (read : Result JoinRequestValue RequestError) (response : List ℕ) (error : Option PipeError)
    → IsJoinResponse read response error → IsResponseOfOnlyEnd response error
only_end_of_join read response None is = tt
only_end_of_join read response (Some (errors.Request error)) is = is.1
only_end_of_join read response (Some (errors.Script error)) is = absurd is
only_end_of_join read response (Some (errors.Halo fault)) is = absurd is
only_end_of_join read response (Some (errors.Question error)) is = absurd is
only_end_of_join read response (Some errors.Memory) is = is
only_end_of_join read response (Some (errors.MemoryAt line)) is = tt
only_end_of_join read response (Some errors.MemoryAtQuestion) is = tt
only_end_of_join read response (Some errors.Write) is = tt

-- ---- the read state of the source

-- after a request that could be read, the source has been read to its end
pub asked_of_run : (form : ResponseForm) (request : RunRequestValue) (response : List ℕ) (error : Option PipeError)
    {asked : Asked}
    → IsResponseToRunRequest form (Ok request) response error → asked ≡ Ended → IsReadStateForError error asked
asked_of_run form request response None is end = end
asked_of_run form request response (Some (errors.Request error)) is end = cc is.0
asked_of_run form request response (Some (errors.Script error)) is end = end
asked_of_run form request response (Some (errors.Halo fault)) is end = end
asked_of_run form request response (Some (errors.Question error)) is end = end
asked_of_run form request response (Some errors.Memory) is end = λ again. cc
asked_of_run form request response (Some (errors.MemoryAt line)) is end = end
asked_of_run form request response (Some errors.MemoryAtQuestion) is end = end
asked_of_run form request response (Some errors.Write) is end = end

pub asked_of_plan : (request : PlanRequestValue) (response : List ℕ) (error : Option PipeError) {asked : Asked}
    → IsPlanResponse (Ok request) response error → asked ≡ Ended → IsReadStateForError error asked
asked_of_plan request response None is end = end
asked_of_plan request response (Some (errors.Request error)) is end = cc is.0
asked_of_plan request response (Some (errors.Script error)) is end = end
asked_of_plan request response (Some (errors.Halo fault)) is end = end
asked_of_plan request response (Some (errors.Question error)) is end = end
asked_of_plan request response (Some errors.Memory) is end = λ again. cc
asked_of_plan request response (Some (errors.MemoryAt line)) is end = end
asked_of_plan request response (Some errors.MemoryAtQuestion) is end = end
asked_of_plan request response (Some errors.Write) is end = end

pub asked_of_join : (request : JoinRequestValue) (response : List ℕ) (error : Option PipeError) {asked : Asked}
    → IsJoinResponse (Ok request) response error → asked ≡ Ended → IsReadStateForError error asked
asked_of_join request response None is end = end
asked_of_join request response (Some (errors.Request error)) is end = cc is.0
asked_of_join request response (Some (errors.Script error)) is end = end
asked_of_join request response (Some (errors.Halo fault)) is end = end
asked_of_join request response (Some (errors.Question error)) is end = end
asked_of_join request response (Some errors.Memory) is end = λ again. cc
asked_of_join request response (Some (errors.MemoryAt line)) is end = end
asked_of_join request response (Some errors.MemoryAtQuestion) is end = end
asked_of_join request response (Some errors.Write) is end = end

-- after a request that could not be read, the source has been read up to the error
pub asked_of_stop : (stop : RequestStop) (error : Option PipeError) {asked : Asked}
    → error ≡ Some (pipe_error_of_request_stop stop)
    → asked ≡ read_state_after_request_stop stop → IsReadStateForError error asked
asked_of_stop stops.Memory error {asked} is far = subst (λ (e : Option PipeError). IsReadStateForError e asked) (sym is)
    (λ again. cc)
asked_of_stop (stops.Error e) error {asked} is far = subst (λ (e : Option PipeError). IsReadStateForError e asked)
    (sym is) far

pub asked_of_field : (stop : FieldReadingStop) (placed : RequestStop) (error : Option PipeError) {asked : Asked}
    → placed ≡ request_stop_at_position 0 0 stop
    → error ≡ Some (pipe_error_of_request_stop placed) → asked ≡ read_state_after_field_stop stop
    → IsReadStateForError error asked
asked_of_field field_stops.Memory placed error at is far = asked_of_stop stops.Memory error
    (is ∙ ap (λ s. Some (pipe_error_of_request_stop s)) at) far
asked_of_field (field_stops.Error kind) placed error at is far =
    asked_of_stop (request_stop_at_position 0 0 (field_stops.Error kind)) error (is
    ∙ ap (λ s. Some (pipe_error_of_request_stop s)) at) far

-- ---- from a feed to its source

-- a response to the content of a feed is a response to the content of its source
pub of_source : (gave now : List ℕ) (asked at : Asked) (old new : RequestReaderValue)
    → old ≡ record { unread = []; gave = gave; asked = asked } → now ≡ new.gave → at ≡ new.asked
    → (response : List ℕ) (error : Option PipeError)
    → IsResponseToFeed old new (λ c. IsResponseToRequestOfForm (request_form_reading c)) response error
    → IsResponseToSource gave now at response error
of_source gave now asked at old new first gave_is asked_is response error is = (
  is.0,
  λ c fit.
      let known : request_reader_may_hold_bytes c new ≡ true = subst (λ (a : Asked). source_may_hold new.gave a c
      ≡ true) asked_is
      (subst (λ (g : List ℕ). source_may_hold g at c ≡ true) gave_is fit) in
      subst (λ (f : RequestReaderValue). IsResponseToRequestOfForm
      (request_form_reading (left c f)) response error) first
      (is.1 c known).1,
)

-- a response to the bytes that a source gave is a response to any content that it may hold
pub held : (before gave : List ℕ) (asked : Asked) {taken now : Option (List ℕ)} {start after : SinkFaults}
    {outcome : PipeOutcome} (c : ComingBytes) → source_may_hold gave asked c ≡ true
    → IsEndOfResponseSent (IsResponseToSource before gave asked) taken start now after outcome
    → IsEndOfResponseSent (IsResponseToRequestOfForm (request_form_reading
    (bytes_to_come_after_reading c (length before)))) taken start
    now after outcome
held before gave asked c fit ended =
    ends_more (IsResponseToSource before gave asked) (IsResponseToRequestOfForm
    (request_form_reading (bytes_to_come_after_reading c (length before))))
    (λ response error is. is.1 c fit) ended

-- ---- accepted scripts

abbrev of_plan : List (List ℕ) → List ℕ → PlanRequestValue
of_plan names script = record { names = names; script = script }

-- a request with an error other than out of memory or a failed write was not accepted
refused : ScriptsHaveNoFault → TextDenotesAtMostOneScript → (form : RequestFieldReading RequestForm)
    → IsRequestAccepted form
    → (response : List ℕ) (error : PipeError)
    → exit_status_of_pipe_run (Some error) ≢ 3 → (error ≡ errors.Write → ⊥)
    → IsResponseToRequestOfForm form response (Some error)
    → ⊥
refused law one (Err kind) accepted response error lasts fine is = accepted
refused law one (Ok (form.Run run, rest)) accepted response (errors.Request e) lasts fine is =
    cc (is.0, accepted.1.1.1.request)
refused law one (Ok (form.Run run, rest)) accepted response (errors.Script fault) lasts fine is =
    let given = accepted.1.1.1 in
    let same : of_run accepted.0 given.script accepted.1.1.0 ≡ of_run is.shelves is.script is.questions = cc
    (is.request, given.request) in
    law is.shelves.outer.names is.script accepted.1.0 fault
    (subst (λ (r : RunRequestValue). IsScript r.shelves.outer.names r.script accepted.1.0) same given.denoted) is.first
refused law one (Ok (form.Run run, rest)) accepted response (errors.Halo fault) lasts fine is =
    let given = accepted.1.1.1 in
    let same : of_run accepted.0 given.script accepted.1.1.0 ≡ of_run is.shelves is.script is.questions = cc
    (is.request, given.request) in
    let statements : accepted.1.0 ≡ is.statements =
    one is.shelves.outer.names is.script accepted.1.0 is.statements
    (subst (λ (r : RunRequestValue). IsScript r.shelves.outer.names r.script accepted.1.0) same given.denoted)
    is.denoted in
    let enough : halo_fault_of_statements is.shelves accepted.1.0 ≡ None =
    subst (λ (r : RunRequestValue). halo_fault_of_statements r.shelves accepted.1.0 ≡ None) same given.enough in
    let none : halo_fault_of_statements is.shelves is.statements ≡ None =
    subst (λ (l : List Statement). halo_fault_of_statements is.shelves l ≡ None) statements enough in
    cc (is.first, none)
refused law one (Ok (form.Run run, rest)) accepted response (errors.Question error) lasts fine is =
    let given = accepted.1.1.1 in
    let same : of_run accepted.0 given.script accepted.1.1.0 ≡ of_run is.shelves is.script is.questions = cc
    (is.request, given.request) in
    let form : ResponseForm = response_form_of_run run in
    let statements : accepted.1.0 ≡ is.statements =
    one is.shelves.outer.names is.script accepted.1.0 is.statements
    (subst (λ (r : RunRequestValue). IsScript r.shelves.outer.names r.script accepted.1.0) same given.denoted)
    is.denoted in
    let known : question_error_after_statements form is.shelves accepted.1.0 is.questions ≡ None =
    subst (λ (r : RunRequestValue). question_error_after_statements form r.shelves accepted.1.0 r.questions ≡ None) same
    given.known in
    let none : question_error_after_statements form is.shelves is.statements is.questions ≡ None =
    subst (λ (l : List Statement). question_error_after_statements form is.shelves l is.questions ≡ None) statements
    known in
    cc (is.first, none)
refused law one (Ok (form.Plan, rest)) accepted response (errors.Request e) lasts fine is =
    cc (is.0, accepted.1.1.request)
refused law one (Ok (form.Plan, rest)) accepted response (errors.Script fault) lasts fine is =
    let same : of_plan accepted.0 accepted.1.1.script ≡ of_plan is.names is.script = cc
    (is.request, accepted.1.1.request) in
    law is.names is.script accepted.1.0 fault
    (subst (λ (r : PlanRequestValue). IsScript r.names r.script accepted.1.0) same accepted.1.1.denoted) is.first
refused law one (Ok (form.Plan, rest)) accepted response (errors.Halo fault) lasts fine is = is
refused law one (Ok (form.Plan, rest)) accepted response (errors.Question error) lasts fine is = is
refused law one (Ok (form.Join, rest)) accepted response (errors.Request e) lasts fine is = cc (is.0, accepted.1)
refused law one (Ok (form.Join, rest)) accepted response (errors.Script fault) lasts fine is = is
refused law one (Ok (form.Join, rest)) accepted response (errors.Halo fault) lasts fine is = is
refused law one (Ok (form.Join, rest)) accepted response (errors.Question error) lasts fine is = is
refused law one form accepted response errors.Memory lasts fine is = lasts refl
refused law one form accepted response (errors.MemoryAt line) lasts fine is = lasts refl
refused law one form accepted response errors.MemoryAtQuestion lasts fine is = lasts refl
refused law one form accepted response errors.Write lasts fine is = fine refl

-- a request with an accepted script is done if memory lasts and the sink accepts everything
pub all_is_done : ScriptsHaveNoFault → TextDenotesAtMostOneScript
    → (form : RequestFieldReading RequestForm) {before now : Option (List ℕ)}
    {start after : SinkFaults}
    {outcome : PipeOutcome} → IsEndOfResponseSent (IsResponseToRequestOfForm form) before start now after outcome
    → IsRequestAccepted form → outcome.status ≢ 3 → has_failed after ≡ false → IsNone outcome.error
all_is_done law one form {outcome = outcome} h accepted lasts good = by outcome.error refl
  where
    not_written : outcome.error ≡ Some errors.Write → ⊥
    not_written write = cc (ended_failed (IsResponseToRequestOfForm form) h write, good)

    by : (error : Option PipeError) → outcome.error ≡ error → IsNone outcome.error
    by None is = ap is_some is
    by (Some error) is = absurd (refused law one form accepted h.text error
        (λ three. lasts (h.finished.status ∙ ap exit_status_of_pipe_run is ∙ three))
        (λ write. not_written (is ∙ ap (λ e. Some e) write))
        (subst (IsResponseToRequestOfForm form h.text) (sym (ended_reported
        (IsResponseToRequestOfForm form) h not_written) ∙ is) h.is))

no_error : (error : Option PipeError) → IsNone error → error ≡ None
no_error None none = refl
no_error (Some error) none = cc

-- a run with an accepted script writes exactly its frames
pub headline_of : ScriptsHaveNoFault → TextDenotesAtMostOneScript
    → (c : ComingBytes) {before now : Option (List ℕ)} {start after : SinkFaults}
    {outcome : PipeOutcome} → IsEndOfResponseSent (IsResponseToRequestOfForm
    (request_form_reading c)) before start now after outcome
    → (shelves : RunShelvesValue) (statements : List Statement) (questions : List PatchQuestionValue)
    → BytesAskForFrames c shelves statements questions
    → WritesFramesUnlessFailed shelves statements questions before now (has_failed after) outcome
headline_of law one c {before} {now} {outcome = outcome} h shelves statements questions is lasts good =
    let of_form : IsRunRequestAccepted (response_form_of_run is.run) (run_request_or_error is.run is.rest) shelves
    statements questions =
    subst (λ (f : ResponseForm). IsRunRequestAccepted f (run_request_or_error is.run is.rest) shelves statements
    questions) (sym is.frames) is.accepted in
    let accepted : IsRequestAccepted (request_form_reading c) = subst IsRequestAccepted (sym is.form)
    (shelves, (statements, (questions, of_form))) in
    let none : outcome.error ≡ None = no_error outcome.error
    (all_is_done law one (request_form_reading c) h accepted lasts good) in
    let reported : outcome.reported ≡ None = sym
    (ended_reported (IsResponseToRequestOfForm (request_form_reading c)) h (λ write. cc (write, none))) ∙ none in
    let done : IsResponseOfAcceptedRequest Frames (run_request_or_error is.run is.rest) h.text =
    subst (λ (f : ResponseForm). IsResponseOfAcceptedRequest f (run_request_or_error is.run is.rest) h.text) is.frames
    (subst (λ (f : RequestFieldReading RequestForm). IsResponseToRequestOfForm f h.text None) is.form
    (subst (IsResponseToRequestOfForm (request_form_reading c) h.text) reported h.is)) in
    let same : of_run done.shelves done.accepted.script done.questions ≡ of_run shelves is.accepted.script questions =
    cc (done.accepted.request, is.accepted.request) in
    let statements_are : done.statements ≡ statements =
    one shelves.outer.names is.accepted.script done.statements statements
    (subst (λ (r : RunRequestValue). IsScript r.shelves.outer.names r.script done.statements) same
    done.accepted.denoted)
    is.accepted.denoted in
    let given : AreFramesOfStatementsAndQuestions shelves statements questions done.gives.0 =
    subst (λ (r : RunRequestValue). AreFramesOfStatementsAndQuestions r.shelves statements r.questions done.gives.0)
    same
    (subst (λ (ss : List Statement). AreFramesOfStatementsAndQuestions done.shelves ss done.questions done.gives.0)
    statements_are
    done.gives.1.0) in
    let taken = subst (λ (e : Option PipeError). IsTextAcceptedBySink h.text before now e outcome.written) none
    (ended_taken (IsResponseToRequestOfForm (request_form_reading c)) h) in (
      h.finished.status ∙ ap exit_status_of_pipe_run none,
      none,
      (done.gives.0, (given, taken.0 ∙ ap (append_if_known before) done.gives.1.1)),
    )
