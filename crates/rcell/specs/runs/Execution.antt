-- What has been written when the execution of statements stops (profile).
use Rattle.std.specs.Prelude.{ℕ, ◌≡◌, Bool, true, false, List, ◌∷◌, ◌++◌, length, Option, Result, Ok, Err}
use Rattle.cell_core_devices.specs.Device.{append_if_known}
use Rattle.cell_core.specs.Shelf.{ShelfValue}
use Rattle.cell_core_devices.specs.Blocks.{capped_byte_count}
use Rattle.rcell_script.specs.declared.statement.Statement.{Statement}
use Rattle.rcell.specs.Output.{StatementsWriteTextAndLeaveShelf}
use Rattle.rcell.specs.declared.execution.ExecutionStopReason.{ExecutionStopReason}
use Rattle.rcell.specs.declared.execution.ExecutionStopReason.TheVariants.{Memory, Write}
use Rattle.rcell.specs.declared.execution.StoppedExecution.{StoppedExecution}

-- the sink failed
abbrev pub is_failed_write : ExecutionStopReason → Bool
is_failed_write (Memory line) = false
is_failed_write Write = true

-- the execution stopped because the sink failed
abbrev pub is_stopped_by_failed_write : {A : Type 0} → Result A StoppedExecution → Bool
is_stopped_by_failed_write (Ok x) = false
is_stopped_by_failed_write (Err stopped) = is_failed_write stopped.stop

-- the sink accepted the full output of the statements before the one at `line`, which was not started
pub record IsStoppedBeforeStatement (shelf : ShelfValue) (statements : List Statement) (before now : Option (List ℕ)) (written line : ℕ) : Type 0 where
  pub first : List Statement
  pub statement : Statement
  pub others : List Statement
  pub whole : first ++ statement ∷ others ≡ statements
  pub line_is : line ≡ statement.line
  pub text : List ℕ
  pub after : ShelfValue
  pub executed : StatementsWriteTextAndLeaveShelf shelf first text after
  pub taken : now ≡ append_if_known before text
  pub count : written ≡ capped_byte_count (length text)

-- the sink accepted a prefix of the output of the first statements
pub record IsOutputPrefixWritten (shelf : ShelfValue) (statements : List Statement) (before now : Option (List ℕ)) (written : ℕ) : Type 0 where
  pub first : List Statement
  pub others : List Statement
  pub whole : first ++ others ≡ statements
  pub prefix : List ℕ
  pub rest : List ℕ
  pub after : ShelfValue
  pub executed : StatementsWriteTextAndLeaveShelf shelf first (prefix ++ rest) after
  pub taken : now ≡ append_if_known before prefix
  pub count : written ≡ capped_byte_count (length prefix)

-- an execution stopped: memory ran out before a statement's first byte, or the sink failed
abbrev pub Stops : ShelfValue → List Statement → Option (List ℕ) → Option (List ℕ) → ℕ → ExecutionStopReason → Type 0
Stops shelf statements before now written (Memory line) = IsStoppedBeforeStatement shelf statements before now written
    line
Stops shelf statements before now written Write = IsOutputPrefixWritten shelf statements before now written
