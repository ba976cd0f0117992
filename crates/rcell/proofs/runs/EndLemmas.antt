-- The outcome of an execution, and the failed calls of the sink.
use Rattle.std.proofs.Common.{◌≡◌, ◌∙◌, ◌<◌, ◌||◌, ℕ, Bool, true, false, List, All, Option, Some, None, Result, Ok, Err, refl, sym, ap}
use Rattle.std.specs.Prelude.{IsNone, IfOk, IfErr}
use Rattle.std.proofs.lemmas.Bool.{true≢false}
use Rattle.cell_core_devices.specs.Device.{SinkFaults, faults_after_flush, faults_after_put, has_failed}
use Rattle.cell_core.specs.Shelf.{ShelfValue}
use Rattle.rcell_script.specs.declared.statement.Statement.{Statement}
use Rattle.rcell.specs.declared.run_fault.RunFault.{RunFault}
use Rattle.rcell.specs.declared.run_fault.RunFault.TheVariants as faults
use Rattle.rcell.specs.declared.execution.ExecutionStopReason.{ExecutionStopReason}
use Rattle.rcell.specs.declared.execution.ExecutionStopReason.TheVariants.{Memory, Write}
use Rattle.rcell.specs.declared.execution.StoppedExecution.{StoppedExecution}
use Rattle.rcell.specs.declared.outcome.Outcome.{Outcome}
use Rattle.rcell.specs.parts.Ends.{IsOutputAtRunEnd, outcome_after_flush, run_fault_of_stop_reason}
use Rattle.rcell.specs.parts.Ends.{sink_state_after_execution}
use Rattle.rcell.specs.parts.Ends.{sink_state_after_stop}
use Rattle.rcell.specs.runs.Execution.{is_failed_write, is_stopped_by_failed_write, Stops}
use Rattle.rcell.specs.runs.Outcomes.{IsSinkStateForRunFault, IsFullOutputWritten}
use Rattle.cell_ascii_meaning.specs.declared.grid_fault.GridKind.{GridKind}
use Rattle.cell_ascii_meaning.specs.declared.grid_fault.GridKind.TheVariants as grid_kinds
use Rattle.rcell_script.specs.declared.script_fault.ScriptKind.{ScriptKind}
use Rattle.rcell_script.specs.declared.script_fault.ScriptKind.TheVariants as script_kinds
use Rattle.rcell.specs.runs.Statuses.{exit_status_of_grid_kind, exit_status_of_script_kind, exit_status_of_run_fault}
use Rattle.rcell.specs.runs.Statuses.{exit_status_of_run}
use Rattle.rcell.proofs.runs.ExecutionLemmas.{done_within, row_above_or_nulls}

pub not_none : {X : Type 0} → true ≡ false → X
not_none none = cc

grid_not_zero : {X : Type 0} (kind : GridKind) → exit_status_of_grid_kind kind ≡ 0 → X
grid_not_zero grid_kinds.Read zero = cc
grid_not_zero grid_kinds.Memory zero = cc
grid_not_zero kind zero = cc

script_not_zero : {X : Type 0} (kind : ScriptKind) → exit_status_of_script_kind kind ≡ 0 → X
script_not_zero script_kinds.Memory zero = cc
script_not_zero kind zero = cc

-- no error has status 0
pub not_zero : {X : Type 0} (fault : RunFault) → exit_status_of_run_fault fault ≡ 0 → X
not_zero (faults.GridTwice grid) zero = cc
not_zero (faults.GridRegion grid) zero = cc
not_zero (faults.Grid grid fault) zero = grid_not_zero fault.kind zero
not_zero faults.ScriptRead zero = cc
not_zero faults.ScriptSize zero = cc
not_zero (faults.Script fault) zero = script_not_zero fault.kind zero
not_zero (faults.Memory line) zero = cc
not_zero faults.Write zero = cc

pub none_at_zero : (fault : Option RunFault) → exit_status_of_run fault ≡ 0 → IsNone fault
none_at_zero None zero = refl
none_at_zero (Some fault) zero = not_zero fault zero

module _ (shelf : ShelfValue) (statements : List Statement) (numbered : All (λ s. 0 < s.line) statements) (before now : Option (List ℕ)) (old between new : SinkFaults) (fails : Bool) where
  stopped_ends : (stop : ExecutionStopReason) (written : ℕ) → Stops shelf statements before now written stop → between ≡ faults_after_put old (is_failed_write stop) → new ≡ sink_state_after_stop between stop fails
      → IsOutputAtRunEnd shelf statements before now old new (record { status = exit_status_of_run_fault (run_fault_of_stop_reason stop); written = written; fault = Some (run_fault_of_stop_reason stop) })
  stopped_ends (Memory line) written stops puts flush = record {
    done = λ none. not_none none;
    late = row_above_or_nulls shelf statements before now written line numbered stops;
    stops = stops;
    status = refl;
    whole = λ write. cc;
    first = (fails, flush ∙ ap (λ (f : SinkFaults). faults_after_flush f fails) puts);
  }
  stopped_ends Write written stops puts flush = record {
    done = λ none. not_none none;
    late = tt;
    stops = stops;
    status = refl;
    whole = λ write clean. absurd (true≢false (sym (ap (λ (f : SinkFaults). f.refused) (flush ∙ puts)) ∙ clean));
    first = (true, flush ∙ puts);
  }

  executed_ends : (executed : Result ℕ StoppedExecution) → IfOk executed (λ written. IsFullOutputWritten shelf statements before now written) → IfErr executed (λ s. Stops shelf statements before now s.written s.stop)
      → between ≡ faults_after_put old (is_stopped_by_failed_write executed) → new ≡ sink_state_after_execution between executed fails → IsOutputAtRunEnd shelf statements before now old new (outcome_after_flush executed fails)
  executed_ends (Err stopped) done stops puts flush = stopped_ends stopped.stop stopped.written stops puts flush
  executed_ends (Ok written) done stops puts flush = done_ends fails flush
    where
      done_ends : (b : Bool) → new ≡ faults_after_flush between b → IsOutputAtRunEnd shelf statements before now old new (outcome_after_flush (Ok written) b)
      done_ends false flush = record {
        done = λ none. done;
        late = tt;
        stops = tt;
        status = refl;
        whole = λ write. cc;
        first = flush ∙ ap (λ (f : SinkFaults). faults_after_flush f false) puts;
      }
      done_ends true flush = record {
        done = λ none. not_none none;
        late = tt;
        stops = done_within shelf statements before now written done;
        status = refl;
        whole = λ write clean. done;
        first = (false, flush ∙ ap (λ (f : SinkFaults). faults_after_flush f true) puts);
      }

  -- an execution and its flush together give the end of a run
  pub is_end : (executed : Result ℕ StoppedExecution) (outcome : Outcome) → outcome ≡ outcome_after_flush executed fails → IfOk executed (λ written. IsFullOutputWritten shelf statements before now written)
      → IfErr executed (λ s. Stops shelf statements before now s.written s.stop) → between ≡ faults_after_put old (is_stopped_by_failed_write executed) → new ≡ sink_state_after_execution between executed fails
      → IsOutputAtRunEnd shelf statements before now old new outcome
  is_end executed outcome answer done stops puts flush = rw answer (executed_ends executed done stops puts flush)

-- if there is no error, no call failed and the sink was flushed once
pub sound : (fault : Option RunFault) (old new : SinkFaults) → IsSinkStateForRunFault fault old new → IsNone fault → new ≡ faults_after_flush old false
sound None old new failing none = failing
sound (Some fault) old new failing none = not_none none

-- if the error is a failed write, a call of the sink failed
pub write : (fault : Option RunFault) (old new : SinkFaults) → IsSinkStateForRunFault fault old new → fault ≡ Some faults.Write → has_failed new ≡ true
write fault old new failing is = by (rw is at failing)
  where
    or_true : (b : Bool) → (b || true) ≡ true
    or_true true = refl
    or_true false = refl

    by : IsSinkStateForRunFault (Some faults.Write) old new → has_failed new ≡ true
    by (true, e) = rw e refl
    by (false, e) = rw e (or_true old.refused)
