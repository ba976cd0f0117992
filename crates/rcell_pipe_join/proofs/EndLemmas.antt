-- The ends of responses to join requests.
use Rattle.std.proofs.Common.{◌≡◌, ◌∙◌, List, ℕ, ◌++◌, Option, subst, ap, append_assoc}
use Rattle.cell_core_devices.specs.Device.{SinkFaults}
use Rattle.rcell_pipe_response.specs.declared.end.PipeError.{PipeError}
use Rattle.rcell_pipe_response.specs.declared.frame_run.PipeOutcome.{PipeOutcome}
use Rattle.rcell_pipe_frames.specs.FrameBytes.{RunEndValue, response_magic, run_end_frame_bytes}
use Rattle.rcell_pipe_response.specs.FrameEndings.{IsTextSentWithOutcome}
use Rattle.rcell_pipe_join.specs.JoinFrames.{one_frame_response}

-- the frame is followed by the last frame
pub finished_frame : {before now : Option (List ℕ)} {start after : SinkFaults} {error : Option PipeError}
    {outcome : PipeOutcome} (frame : List ℕ) (one end : RunEndValue) → one ≡ end
    → IsTextSentWithOutcome before start now after error ((response_magic ++ frame) ++ run_end_frame_bytes one) outcome
    → IsTextSentWithOutcome before start now after error (one_frame_response frame end) outcome
finished_frame {before} {now} {start} {after} {error} {outcome} frame one end same finished =
    subst (λ (t : List ℕ). IsTextSentWithOutcome before start now after error t outcome)
    (ap (λ (e : RunEndValue). (response_magic ++ frame) ++ run_end_frame_bytes e) same
    ∙ append_assoc response_magic frame (run_end_frame_bytes end)) finished
