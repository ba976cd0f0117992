-- The response to a request that a caller writes (profile).
use Rattle.std.specs.Prelude.{ℕ, ◌≡◌, ◌↔◌, List, ◌++◌, Some, None, codes}
use Rattle.rcell_script.specs.Scripts.{IsScript}
use Rattle.rcell_script.specs.declared.statement.Statement.{Statement}
use Rattle.rcell_pipe_request.specs.Requests.{RunRequestValue}
use Rattle.rcell_pipe_request.specs.declared.error.RequestError.{RequestError}
use Rattle.rcell_pipe_response.specs.declared.end.PipeError.TheVariants as errors
use Rattle.rcell_pipe_response.specs.declared.frame_run.ResponseForm.TheVariants.{Frames}
use Rattle.rcell_pipe_frames.specs.FrameBytes.{response_bytes}
use Rattle.rcell_pipe_frames.specs.Frames.{OutputFrame}
use Rattle.rcell_pipe_response.specs.QuestionFrames.{question_error_after_statements}
use Rattle.rcell_pipe_response.specs.RunEnds.{AreFramesOfStatementsAndQuestions, end_frame_of_successful_run}
use Rattle.rcell_pipe_response.specs.RunEnds.{halo_fault_of_statements}
use Rattle.rcell_plan_response.specs.Responses.{IsResponseToRequestOfForm, request_form_reading}
use Rattle.rcell_pipe_law.specs.RequestLaw.{IsSendableRequest, SentRequest, meaning_of_sent_request, request_bytes}
use Rattle.rcell_pipe_law.specs.RequestLaw.{source_of_bytes}

-- the bytes of a request for frames
abbrev pub bytes_of_frames_request : SentRequest → List ℕ
bytes_of_frames_request r = codes "RCELLQ1\n" ++ request_bytes r

-- the response consists of the frames of a script over maps and of questions, which name only maps that exist, and the
-- end
pub record AreFramesOfRequest (run : RunRequestValue) (response : List ℕ) : Type 0 where
  pub statements : List Statement
  pub denoted : IsScript run.shelves.outer.names run.script statements
  pub enough : halo_fault_of_statements run.shelves statements ≡ None
  pub known : question_error_after_statements Frames run.shelves statements run.questions ≡ None
  pub frames : List OutputFrame
  pub gives : AreFramesOfStatementsAndQuestions run.shelves statements run.questions frames
  pub bytes : response ≡ response_bytes frames end_frame_of_successful_run

pub record RequestGetsItsFrames (r : SentRequest) : Type 0 where
  -- a response that reports no error consists of exactly the frames that the caller asks for
  pub done : (response : List ℕ)
      → IsResponseToRequestOfForm (request_form_reading (source_of_bytes (bytes_of_frames_request r))) response None
      ↔ AreFramesOfRequest (meaning_of_sent_request r) response
  -- the request has no error; only its script or a question may have one
  pub read : (response : List ℕ) (error : RequestError)
      → IsResponseToRequestOfForm (request_form_reading (source_of_bytes (bytes_of_frames_request r))) response
      (Some (errors.Request error)) → ⊥

-- every request that a caller writes for maps, a script and questions
abbrev pub SentRequestsGetFrames : Type 0
SentRequestsGetFrames = (r : SentRequest) → IsSendableRequest r → RequestGetsItsFrames r
