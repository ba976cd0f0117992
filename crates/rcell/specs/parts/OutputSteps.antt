-- The state of an execution after some statements.
use Rattle.std.specs.Prelude.{ℕ, List, Option}
use Rattle.cell_core_devices.specs.Device.{SinkFaults}
use Rattle.cell_core_devices.specs.Blocks.{OutputBlockValue, IsTextAppendedToSink}
use Rattle.cell_core.specs.Shelf.{ShelfValue}
use Rattle.rcell_script.specs.declared.statement.Statement.{Statement}
use Rattle.rcell.specs.Output.{StatementsWriteTextAndLeaveShelf}

-- the first statements were executed, and their output was appended
pub record AreFirstStatementsExecuted (shelf : ShelfValue) (first : List Statement) (before : Option (List ℕ)) (start : SinkFaults) (now : Option (List ℕ)) (faults : SinkFaults) (block : OutputBlockValue) (after : ShelfValue) : Type 0 where
  pub text : List ℕ
  pub executed : StatementsWriteTextAndLeaveShelf shelf first text after
  pub appended : IsTextAppendedToSink before start text now faults block
