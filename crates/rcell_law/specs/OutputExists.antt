-- Statements that fit their maps have an output, and every accepted script has an output.
use Rattle.std.specs.Prelude.{ℕ, ◌≡◌, List, length, All}
use Rattle.cell_core_devices.specs.Device.{ComingBytes}
use Rattle.cell_core.specs.Grid.{RowsFillRegion}
use Rattle.cell_core.specs.Shelf.{ShelfValue}
use Rattle.rcell.specs.Sources.{Named}
use Rattle.rcell_script.specs.FittingScripts.{StatementsFitKnownMaps}
use Rattle.rcell_script.specs.declared.statement.Statement.{Statement}
use Rattle.rcell.specs.Output.{IsOutputOfStatements}
use Rattle.rcell.specs.runs.Accepted.{AreGridsAndScriptAccepted}

-- if each name belongs to a map of the shelf's region, with the region's rows and columns, statements that fit the
-- names have an output
abbrev pub FittingStatementsHaveOutput : Type 0
FittingStatementsHaveOutput = (shelf : ShelfValue) (statements : List Statement)
    → length shelf.names ≡ length shelf.maps
    → All (λ m. (m.region ≡ shelf.region) × RowsFillRegion m.region m.rows) shelf.maps
    → StatementsFitKnownMaps shelf.names statements → (text : List ℕ) × IsOutputOfStatements shelf statements text

-- every accepted script has an output
abbrev pub AcceptedScriptsHaveOutput : Type 0
AcceptedScriptsHaveOutput = (grids : List Named) (script : ComingBytes) (shelf : ShelfValue)
    (statements : List Statement)
    → AreGridsAndScriptAccepted grids script shelf statements → (text : List ℕ)
    × IsOutputOfStatements shelf statements text
