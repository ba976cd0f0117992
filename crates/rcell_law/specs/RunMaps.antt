-- The maps of a run can be written and read back.
use Rattle.std.specs.Prelude.{ℕ, ◌≡◌, List, None, All}
use Rattle.cell_core_devices.specs.Device.{ComingBytes}
use Rattle.cell_core.specs.Shelf.{ShelfValue}
use Rattle.cell_ascii_meaning.specs.EdgeNumbers.{whole_number_of_text}
use Rattle.cell_ascii_law.specs.WrittenLaw.{IsWritableMap}
use Rattle.rcell.specs.Sources.{Named}
use Rattle.rcell_script.specs.declared.statement.Statement.{Statement}
use Rattle.rcell.specs.Output.{StatementsWriteTextAndLeaveShelf}
use Rattle.rcell.specs.runs.Accepted.{AreGridsAndScriptAccepted}

-- each map of an accepted script can be written and read back, with any null text that is not a whole number
abbrev pub RunMapsAreWritable : Type 0
RunMapsAreWritable = (grids : List Named) (script : ComingBytes) (shelf after : ShelfValue)
    (statements : List Statement)
    (text : List ℕ)
    → AreGridsAndScriptAccepted grids script shelf statements
    → StatementsWriteTextAndLeaveShelf shelf statements text after
    → (null_text : List ℕ) → whole_number_of_text null_text ≡ None → All (IsWritableMap null_text) after.maps
