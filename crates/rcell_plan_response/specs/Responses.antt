-- The response to a request of any form (profile).
use Rattle.std.specs.Prelude.{ℕ, ◌≡◌, ◌≢◌, Bool, true, false, List, length, Option, Some, None}
use Rattle.std.specs.Prelude.{Result, Ok, Err, if◌then◌else◌, codes}
use Rattle.std.specs.Prelude.{bytes_eq}
use Rattle.cell_core_devices.specs.Device.{ComingBytes, bytes_to_come_after_reading, append_if_known}
use Rattle.cell_core_devices.specs.declared.source.Asked.{Asked}
use Rattle.cell_core_devices.specs.declared.source.Asked.TheVariants.{Ended, Again}
use Rattle.cell_core_values.specs.Answers.{◌>>=◌}
use Rattle.rcell_script.specs.declared.statement.Statement.{Statement}
use Rattle.rcell_pipe_request.specs.declared.error.ErrorKind.TheVariants as kinds
use Rattle.rcell_pipe_request.specs.declared.error.RequestError.{RequestError}
use Rattle.rcell_pipe_request.specs.RequestFields.{RequestFieldReading, PositionedReading, bytes_reading}
use Rattle.rcell_pipe_request.specs.RequestFields.{reading_of_value_or_error_kind}
use Rattle.rcell_pipe_request.specs.Supposed.{source_may_hold}
use Rattle.rcell_pipe_request.specs.Feeds.{read_state_after_error}
use Rattle.rcell_pipe_request.specs.Questions.{PatchQuestionValue}
use Rattle.rcell_pipe_request.specs.Requests.{RunRequestValue, run_request_reading, tile_run_request_reading}
use Rattle.rcell_pipe_response.specs.declared.end.PipeError.{PipeError}
use Rattle.rcell_pipe_response.specs.declared.end.PipeError.TheVariants as errors
use Rattle.rcell_pipe_response.specs.declared.frame_run.PipeOutcome.{PipeOutcome}
use Rattle.rcell_pipe_frames.specs.Frames.{OutputFrame}
use Rattle.rcell_pipe_frames.specs.FrameBytes.{response_bytes}
use Rattle.rcell_pipe_response.specs.RunEnds.{end_frame_of_successful_run, IsResponseToRunRequest, IsRunRequestAccepted}
use Rattle.rcell_pipe_response.specs.RunEnds.{AreFramesOfStatementsAndQuestions}
use Rattle.rcell_plan_response.specs.declared.responding.RunForm.{RunForm}
use Rattle.rcell_plan_response.specs.declared.responding.RunForm.TheVariants.{FullMaps, Tile}
use Rattle.rcell_plan_response.specs.declared.responding.RequestForm.{RequestForm}
use Rattle.rcell_plan_response.specs.declared.responding.RequestForm.TheVariants.{Run, Plan, Join}
use Rattle.rcell_pipe_response.specs.declared.frame_run.ResponseForm.{ResponseForm}
use Rattle.rcell_pipe_response.specs.declared.frame_run.ResponseForm.TheVariants.{Frames, Text}
use Rattle.rcell_tile.specs.TileRuns.{RunShelvesValue}
use Rattle.rcell_pipe_join.specs.JoinEnds.{IsJoinResponse}
use Rattle.rcell_pipe_join.specs.JoinRequests.{JoinRequestValue, join_request_or_error}
use Rattle.rcell_plan_response.specs.PlanRequests.{PlanRequestValue, plan_request_reading}
use Rattle.rcell_plan_response.specs.PlanEnds.{IsPlanResponse, IsPlanRequestAccepted}

-- the form of a request, given its first eight bytes
abbrev pub request_form_of_magic : List ℕ → Option RequestForm
request_form_of_magic magic = if bytes_eq magic (codes "RCELLQ1\n") then Some (Run (FullMaps Frames)) else
    (if bytes_eq magic (codes "RCELLW1\n") then Some (Run Tile) else
    (if bytes_eq magic (codes "RCELLT1\n") then Some (Run (FullMaps Text)) else
    (if bytes_eq magic (codes "RCELLP1\n") then Some Plan else
    (if bytes_eq magic (codes "RCELLJ1\n") then Some Join else None))))

-- the form, read from the first eight bytes
unfoldable pub request_form_reading : ComingBytes → RequestFieldReading RequestForm
request_form_reading c = do
  magic ← bytes_reading 8 c
  reading_of_value_or_error_kind kinds.BadMagic magic.1 (request_form_of_magic magic.0)

-- the form of a run's response: a tile gets frames
abbrev pub response_form_of_run : RunForm → ResponseForm
response_form_of_run (FullMaps form) = form
response_form_of_run Tile = Frames

-- a run request: full maps, or the place of a tile and its maps with their halo; then a script and questions
abbrev pub run_request_of_form_reading : RunForm → ComingBytes → PositionedReading RunRequestValue
run_request_of_form_reading (FullMaps form) c = run_request_reading c
run_request_of_form_reading Tile c = tile_run_request_reading c

-- the maps, script and questions of a run request, or its first error
abbrev pub run_request_or_error : RunForm → ComingBytes → Result RunRequestValue RequestError
run_request_or_error run c = run_request_of_form_reading run c >>= λ request. Ok request.0

-- the names and script of a plan request, or its first error
abbrev pub plan_request_or_error : ComingBytes → Result PlanRequestValue RequestError
plan_request_or_error c = plan_request_reading c >>= λ plan. Ok plan.0

-- the complete response to a request, for its form and the error that it reports; or, if a write failed at a statement
-- or question, the response up to and including it
abbrev pub IsResponseToRequestOfForm : RequestFieldReading RequestForm → List ℕ → Option PipeError → Type 0
IsResponseToRequestOfForm (Err kind) response error = IsResponseToRunRequest Frames (Err (record { kind = kind; maps = 0; row = 0 })) response error
IsResponseToRequestOfForm (Ok (Run run, rest)) response error = IsResponseToRunRequest (response_form_of_run run)
    (run_request_or_error run rest) response error
IsResponseToRequestOfForm (Ok (Plan, rest)) response error = IsPlanResponse (plan_request_or_error rest) response error
IsResponseToRequestOfForm (Ok (Join, rest)) response error = IsJoinResponse (join_request_or_error rest) response error

-- the response to the bytes returned in this call, for the error that it reports: for any content that the source may
-- hold, given the bytes before and in this call and the read state, this is the response to the bytes after `before`
abbrev pub IsResponseToReturnedBytes : (before gave : List ℕ) → Asked → List ℕ → Option PipeError → Type 0
IsResponseToReturnedBytes before gave asked response error =
    (c : ComingBytes) → source_may_hold gave asked c ≡ true
    → IsResponseToRequestOfForm (request_form_reading (bytes_to_come_after_reading c (length before))) response error

-- the read state of the source, for the error that the response reports: read to its end, or to the first error of the
-- request; if memory ran out before the first statement, at most to its end
abbrev pub IsReadStateForError : Option PipeError → Asked → Type 0
IsReadStateForError None asked = asked ≡ Ended
IsReadStateForError (Some (errors.Request error)) asked = asked ≡ read_state_after_error error.kind
IsReadStateForError (Some (errors.Script error)) asked = asked ≡ Ended
IsReadStateForError (Some (errors.Halo fault)) asked = asked ≡ Ended
IsReadStateForError (Some (errors.Question error)) asked = asked ≡ Ended
IsReadStateForError (Some errors.Memory) asked = asked ≢ Again
IsReadStateForError (Some (errors.MemoryAt line)) asked = asked ≡ Ended
IsReadStateForError (Some errors.MemoryAtQuestion) asked = asked ≡ Ended
IsReadStateForError (Some errors.Write) asked = asked ≡ Ended

-- the bytes are a request, its script, if any, denotes statements, the halo of a tile allows them, and no question is
-- rejected
abbrev pub IsRequestAccepted : RequestFieldReading RequestForm → Type 0
IsRequestAccepted (Err kind) = ⊥
IsRequestAccepted (Ok (Run run, rest)) = (shelves : RunShelvesValue) ×
    ((statements : List Statement) × ((questions : List PatchQuestionValue)
    × IsRunRequestAccepted (response_form_of_run run) (run_request_or_error run rest) shelves statements questions))
IsRequestAccepted (Ok (Plan, rest)) = (names : List (List ℕ)) ×
    ((statements : List Statement) × IsPlanRequestAccepted (plan_request_or_error rest) names statements)
IsRequestAccepted (Ok (Join, rest)) = (request : JoinRequestValue) × (join_request_or_error rest ≡ Ok request)

-- the bytes ask for the frames of a script over these maps, full or of a tile, and of questions, and the script denotes
-- these statements
pub record BytesAskForFrames (c : ComingBytes) (shelves : RunShelvesValue) (statements : List Statement)
    (questions : List PatchQuestionValue) : Type 0 where
  pub run : RunForm
  pub rest : ComingBytes
  pub form : request_form_reading c ≡ Ok (Run run, rest)
  pub frames : response_form_of_run run ≡ Frames
  pub accepted : IsRunRequestAccepted Frames (run_request_or_error run rest) shelves statements questions

-- unless memory runs out (status 3) or the sink fails, the status is 0, there is no error, and exactly the frames of
-- the statements and questions and the end are written
abbrev pub WritesFramesUnlessFailed : RunShelvesValue → List Statement → List PatchQuestionValue → Option (List ℕ)
    → Option (List ℕ)
    → Bool
    → PipeOutcome → Type 0
WritesFramesUnlessFailed shelves statements questions before now failed outcome =
    outcome.status ≢ 3 → failed ≡ false
    → (outcome.status ≡ 0) × (outcome.error ≡ None) ×
    ((frames : List OutputFrame) × (AreFramesOfStatementsAndQuestions shelves statements questions frames
    × (now ≡ append_if_known before (response_bytes frames end_frame_of_successful_run))))
