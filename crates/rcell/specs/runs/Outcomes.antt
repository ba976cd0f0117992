-- The outcome of running an accepted script: the full output.
use Rattle.std.specs.Prelude.{ℕ, ◌≡◌, ◌≢◌, Bool, true, false, List, length, Option, Some, None, if◌then◌else◌}
use Rattle.cell_core_devices.specs.Blocks.{capped_byte_count}
use Rattle.cell_core_devices.specs.Device.{SinkFaults, faults_after_put, faults_after_flush, append_if_known}
use Rattle.cell_core.specs.Shelf.{ShelfValue}
use Rattle.rcell_script.specs.declared.statement.Statement.{Statement}
use Rattle.rcell.specs.Output.{IsOutputOfStatements}
use Rattle.rcell.specs.declared.run_fault.RunFault.{RunFault}
use Rattle.rcell.specs.declared.run_fault.RunFault.TheVariants.{Write}
use Rattle.rcell.specs.declared.outcome.Outcome.{Outcome}

-- the sink accepted exactly the output of the statements, and `written` is the output's length
pub record IsFullOutputWritten (shelf : ShelfValue) (statements : List Statement) (before now : Option (List ℕ)) (written : ℕ) : Type 0 where
  pub text : List ℕ
  pub output : IsOutputOfStatements shelf statements text
  pub taken : now ≡ append_if_known before text
  pub count : written ≡ capped_byte_count (length text)

-- unless memory runs out (status 3) or the sink fails, the status is 0, there is no error, and exactly the output is
-- written
abbrev pub WritesOutputUnlessStopped : ShelfValue → List Statement → Option (List ℕ) → Option (List ℕ) → Bool
    → Outcome → Type 0
WritesOutputUnlessStopped shelf statements before now failed outcome =
    outcome.status ≢ 3 → failed ≡ false
    → (outcome.status ≡ 0) × ((outcome.fault ≡ None) × IsFullOutputWritten shelf statements before now outcome.written)

-- the calls to the sink, for the error of the run:
-- None: it was flushed once, and no call failed
-- Write: a write failed, and it was not flushed; or no write failed, but its only flush did
-- any other error: no write failed, and it was flushed once; the flush may have failed
abbrev pub IsSinkStateForRunFault : Option RunFault → SinkFaults → SinkFaults → Type 0
IsSinkStateForRunFault None old new = new ≡ faults_after_flush old false
IsSinkStateForRunFault (Some Write) old new = (put : Bool) × (new
    ≡ (if put then faults_after_put old true else faults_after_flush old true))
IsSinkStateForRunFault (Some fault) old new = (fails : Bool) × (new ≡ faults_after_flush old fails)
