-- The flush that ends a response.
use Rattle.std.specs.Prelude.{◌≡◌, true, false}
use Rattle.cell_core_devices.specs.Device.{SinkFaults, faults_after_flush}
use Rattle.rcell_pipe_response.specs.declared.frame_run.SinkState.{SinkState}
use Rattle.rcell_pipe_response.specs.declared.frame_run.SinkState.TheVariants as sendings

-- the sink was flushed once, with this result
abbrev pub IsSinkFlushedOnce : SinkState → SinkFaults → SinkFaults → Type 0
IsSinkFlushedOnce sendings.Flushed start after = after ≡ faults_after_flush start false
IsSinkFlushedOnce sendings.Unflushed start after = after ≡ faults_after_flush start true
IsSinkFlushedOnce sendings.Refused start after = ⊥
