-- How a run ends after its execution.
use Rattle.std.specs.Prelude.{ℕ, ◌≡◌, Bool, true, false, List, Option, Some, None, Result, Ok, Err, IsNone, IfSome}
use Rattle.cell_core_devices.specs.Device.{SinkFaults, faults_after_flush}
use Rattle.cell_core.specs.Shelf.{ShelfValue}
use Rattle.rcell_script.specs.declared.statement.Statement.{Statement}
use Rattle.rcell.specs.RunFaults.{IsFaultInExecution}
use Rattle.rcell.specs.declared.run_fault.RunFault.{RunFault}
use Rattle.rcell.specs.declared.run_fault.RunFault.TheVariants as faults
use Rattle.rcell.specs.declared.execution.ExecutionStopReason.{ExecutionStopReason}
use Rattle.rcell.specs.declared.execution.ExecutionStopReason.TheVariants as stops
use Rattle.rcell.specs.declared.execution.StoppedExecution.{StoppedExecution}
use Rattle.rcell.specs.declared.outcome.Outcome.{Outcome}
use Rattle.rcell.specs.runs.Endings.{RunStopsDuringExecution}
use Rattle.rcell.specs.runs.Outcomes.{IsSinkStateForRunFault, IsFullOutputWritten}
use Rattle.rcell.specs.runs.Statuses.{exit_status_of_run_fault, exit_status_of_run}

-- the error that stopped an execution
abbrev pub run_fault_of_stop_reason : ExecutionStopReason → RunFault
run_fault_of_stop_reason (stops.Memory line) = faults.Memory line
run_fault_of_stop_reason stops.Write = faults.Write

-- the outcome of an execution, given whether the flush failed: a failed flush turns a finished run into a failed write,
-- and does not change any other outcome
abbrev pub outcome_after_flush : Result ℕ StoppedExecution → Bool → Outcome
outcome_after_flush (Ok written) false = record { status = 0; written = written; fault = None }
outcome_after_flush (Ok written) true = record { status = 4; written = written; fault = Some faults.Write }
outcome_after_flush (Err stopped) fails = record { status = exit_status_of_run_fault (run_fault_of_stop_reason stopped.stop); written = stopped.written; fault = Some (run_fault_of_stop_reason stopped.stop) }

-- the sink after a stopped execution: it is flushed unless a write failed
abbrev pub sink_state_after_stop : SinkFaults → ExecutionStopReason → Bool → SinkFaults
sink_state_after_stop old (stops.Memory line) fails = faults_after_flush old fails
sink_state_after_stop old stops.Write fails = old

abbrev pub sink_state_after_execution : SinkFaults → Result ℕ StoppedExecution → Bool → SinkFaults
sink_state_after_execution old (Ok written) fails = faults_after_flush old fails
sink_state_after_execution old (Err stopped) fails = sink_state_after_stop old stopped.stop fails

-- a run has the outcome of its execution, and its sink was flushed unless a write failed
pub record Ends (executed : Result ℕ StoppedExecution) (old new : SinkFaults) (outcome : Outcome) : Type 0 where
  pub fails : Bool
  pub answer : outcome ≡ outcome_after_flush executed fails
  pub after : new ≡ sink_state_after_execution old executed fails

-- what holds after the statements were executed and the sink was flushed
pub record IsOutputAtRunEnd (shelf : ShelfValue) (statements : List Statement) (before now : Option (List ℕ)) (old new : SinkFaults) (outcome : Outcome) : Type 0 where
  pub done : IsNone outcome.fault → IsFullOutputWritten shelf statements before now outcome.written
  pub late : IfSome outcome.fault IsFaultInExecution
  pub stops : IfSome outcome.fault (λ f. RunStopsDuringExecution shelf statements before now outcome.written f)
  pub status : outcome.status ≡ exit_status_of_run outcome.fault
  pub whole : outcome.fault ≡ Some faults.Write → new.refused ≡ false → IsFullOutputWritten shelf statements before now outcome.written
  pub first : IsSinkStateForRunFault outcome.fault old new
