-- How a response ends: the last frame, the flush, and the state of the sink.
use Rattle.std.specs.Prelude.{ℕ, ◌≡◌, true, false, List, [], length, Option, Some, None}
use Rattle.cell_core_devices.specs.Device.{SinkFaults, append_if_known, faults_after_put, faults_after_flush}
use Rattle.cell_core_devices.specs.Blocks.{capped_byte_count}
use Rattle.rcell_script.specs.declared.script_fault.ScriptFault.{ScriptFault}
use Rattle.rcell_pipe_response.specs.declared.end.PipeError.{PipeError}
use Rattle.rcell_pipe_response.specs.declared.end.PipeError.TheVariants as errors
use Rattle.rcell_pipe_response.specs.declared.frame_run.PipeOutcome.{PipeOutcome}
use Rattle.rcell_pipe_response.specs.declared.frame_run.SinkState.{SinkState}
use Rattle.rcell_pipe_response.specs.declared.frame_run.SinkState.TheVariants.{Flushed, Unflushed, Refused}
use Rattle.rcell_pipe_frames.specs.FrameBytes.{RunEndValue, response_bytes}
use Rattle.rcell_pipe_response.specs.RunEnds.{exit_status_of_pipe_run, end_frame_of_rejected_script, memory_end}
use Rattle.rcell_pipe_response.specs.RunEnds.{IsTextPrefixWritten}

-- the error of a run, given the reported error and the state of the sink
abbrev pub run_error_with_sink_state : Option PipeError → SinkState → Option PipeError
run_error_with_sink_state reported Flushed = reported
run_error_with_sink_state reported Unflushed = Some errors.Write
run_error_with_sink_state reported Refused = Some errors.Write

-- since `before`, the sink has accepted the text, and was flushed once after its last byte; or a write failed, the sink
-- accepted only the first bytes of the text, and it was not flushed
abbrev pub IsTextSent : SinkState → (before : Option (List ℕ)) → (start : SinkFaults) → (now : Option (List ℕ))
    → (after : SinkFaults)
    → (text : List ℕ) → (written : ℕ) → Type 0
IsTextSent Flushed before start now after text written =
    (now ≡ append_if_known before text) × (after ≡ faults_after_flush start false)
    × (written ≡ capped_byte_count (length text))
IsTextSent Unflushed before start now after text written =
    (now ≡ append_if_known before text) × (after ≡ faults_after_flush start true)
    × (written ≡ capped_byte_count (length text))
IsTextSent Refused before start now after text written = (after ≡ faults_after_put start true)
    × IsTextPrefixWritten before now text written

-- a text was sent, and the outcome reports how
pub record IsTextSentWithOutcome (before : Option (List ℕ)) (start : SinkFaults) (now : Option (List ℕ))
    (after : SinkFaults)
    (reported : Option PipeError) (text : List ℕ) (outcome : PipeOutcome) : Type 0 where
  pub sending : SinkState
  pub reported_is : outcome.reported ≡ reported
  pub error_is : outcome.error ≡ run_error_with_sink_state reported sending
  pub status : outcome.status ≡ exit_status_of_pipe_run outcome.error
  pub sent : IsTextSent sending before start now after text outcome.written

-- a script is rejected with its own error, or because memory ran out
abbrev pub IsErrorOfRejectedScript : ScriptFault → PipeError → RunEndValue → Type 0
IsErrorOfRejectedScript fault (errors.Script error) end = (error ≡ fault) × (end ≡ end_frame_of_rejected_script fault)
IsErrorOfRejectedScript fault errors.Memory end = end ≡ memory_end 0
IsErrorOfRejectedScript fault error end = ⊥

-- a script was rejected
pub record Rejected (before : Option (List ℕ)) (start : SinkFaults) (now : Option (List ℕ)) (after : SinkFaults) (fault : ScriptFault) (outcome : PipeOutcome) : Type 0 where
  pub error : PipeError
  pub end : RunEndValue
  pub rejects : IsErrorOfRejectedScript fault error end
  pub finished : IsTextSentWithOutcome before start now after (Some error) (response_bytes [] end) outcome

-- the end of a response: the sink accepted the text for the reported error, or its first bytes if a write failed
pub record IsEndOfResponseSent (says : List ℕ → Option PipeError
    → Type 0) (before : Option (List ℕ)) (start : SinkFaults)
    (now : Option (List ℕ)) (after : SinkFaults) (outcome : PipeOutcome) : Type 0 where
  pub text : List ℕ
  pub is : says text outcome.reported
  pub finished : IsTextSentWithOutcome before start now after outcome.reported text outcome
  pub settled : outcome.reported ≡ Some errors.Write → finished.sending ≡ Refused
