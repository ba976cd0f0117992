-- The definition of a worked run, and the grids of the documents.
use Rattle.std.specs.Prelude.{ℕ, false, List, map, codes}
use Rattle.cell_core_devices.specs.Device.{ComingBytes}
use Rattle.cell_core.specs.Shelf.{ShelfValue}
use Rattle.rcell_script.specs.declared.statement.Statement.{Statement}
use Rattle.rcell.specs.runs.Endings.{AreGridsAndScriptRead}
use Rattle.rcell.specs.Output.{IsOutputOfStatements}

-- a source that returns these bytes and ends
abbrev pub source_returning_bytes : List ℕ → ComingBytes
source_returning_bytes bytes = record { bytes = bytes; fails = false }

-- a grid's name and its text
abbrev pub NamedGridText : Type 0
NamedGridText = List ℕ × List ℕ

-- the output of a script over grids, as in the theorem of `run`
pub record ScriptPrintsOutput (grids : List NamedGridText) (script output : List ℕ) : Type 0 where
  pub shelf : ShelfValue
  pub statements : List Statement
  pub read : AreGridsAndScriptRead (map (λ g. (g.0, source_returning_bytes g.1)) grids)
      (source_returning_bytes script) shelf statements
  pub written : IsOutputOfStatements shelf statements output

-- the two grids in the reference of commands
abbrev pub land_grid : NamedGridText
land_grid = (codes "land", codes "north: 3\nsouth: 0\neast: 4\nwest: 0\nrows: 3\ncols: 4\n1 1 2 *\n1 2 2 2\n3 3 1 1\n")

abbrev pub zone_grid : NamedGridText
zone_grid = (codes "zone", codes "north: 3\nsouth: 0\neast: 4\nwest: 0\nrows: 3\ncols: 4\n7 7 8 8\n7 7 8 8\n* 7 8 8\n")
