-- The response to a plan request (profile).
use Rattle.std.specs.Prelude.{ℕ, ◌≡◌, List, [], Option, Some, None, Result, Ok, Err}
use Rattle.rcell_script.specs.Scripts.{IsScript}
use Rattle.rcell_script.specs.ReadScripts.{IsScriptFault}
use Rattle.rcell_script.specs.declared.statement.Statement.{Statement}
use Rattle.rcell_script.specs.declared.script_fault.ScriptFault.{ScriptFault}
use Rattle.rcell_pipe_request.specs.declared.error.RequestError.{RequestError}
use Rattle.rcell_pipe_response.specs.declared.end.PipeError.{PipeError}
use Rattle.rcell_pipe_response.specs.declared.end.PipeError.TheVariants as errors
use Rattle.rcell_pipe_frames.specs.FrameBytes.{response_bytes}
use Rattle.rcell_pipe_response.specs.RunEnds.{request_end, end_frame_of_rejected_script, memory_end}
use Rattle.rcell_plan_response.specs.PlanRequests.{PlanRequestValue}
use Rattle.rcell_plan_response.specs.PlanFrames.{plan_response}

-- the bytes are a plan request, and its script denotes statements over its names
pub record IsPlanRequestAccepted (read : Result PlanRequestValue RequestError) (names : List (List ℕ))
    (statements : List Statement) : Type 0 where
  pub script : List ℕ
  pub request : read ≡ Ok (record { names = names; script = script })
  pub denoted : IsScript names script statements

-- the request is accepted, and the response contains the plan of each statement and the end
pub record IsPlanRequestFulfilled (read : Result PlanRequestValue RequestError) (response : List ℕ) : Type 0 where
  pub names : List (List ℕ)
  pub statements : List Statement
  pub accepted : IsPlanRequestAccepted read names statements
  pub bytes : response ≡ plan_response names statements

-- the script is rejected for its first error: the response is only the end
pub record IsResponseToRejectedPlanScript (read : Result PlanRequestValue RequestError) (response : List ℕ)
    (error : ScriptFault) : Type 0 where
  pub names : List (List ℕ)
  pub script : List ℕ
  pub request : read ≡ Ok (record { names = names; script = script })
  pub first : IsScriptFault names script error
  pub bytes : response ≡ response_bytes [] (end_frame_of_rejected_script error)

-- the complete response to a plan request, for the error that it reports
abbrev pub IsPlanResponse : Result PlanRequestValue RequestError → List ℕ → Option PipeError → Type 0
IsPlanResponse read response None = IsPlanRequestFulfilled read response
IsPlanResponse read response (Some (errors.Request error)) = (read ≡ Err error) ×
    (response ≡ response_bytes [] (request_end error))
IsPlanResponse read response (Some (errors.Script error)) = IsResponseToRejectedPlanScript read response error
IsPlanResponse read response (Some (errors.Halo fault)) = ⊥
IsPlanResponse read response (Some (errors.Question error)) = ⊥
IsPlanResponse read response (Some errors.Memory) = response ≡ response_bytes [] (memory_end 0)
IsPlanResponse read response (Some (errors.MemoryAt line)) = ⊥
IsPlanResponse read response (Some errors.MemoryAtQuestion) = ⊥
IsPlanResponse read response (Some errors.Write) = ⊥
