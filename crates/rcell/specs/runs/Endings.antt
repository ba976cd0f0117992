-- How a run ends: it succeeds, is rejected with the first error in its input, in a fixed order (profile), or stops
-- during execution.
use Rattle.std.specs.Prelude.{ℕ, ◌≡◌, List, Option, Some, None, Result, Ok, Err}
use Rattle.cell_core_devices.specs.Device.{ComingBytes}
use Rattle.cell_core.specs.Shelf.{ShelfValue}
use Rattle.rcell_script.specs.ReadScripts.{IsScriptFault}
use Rattle.rcell_script.specs.Scripts.{IsScript}
use Rattle.rcell_script.specs.declared.script_fault.ScriptFault.{ScriptFault}
use Rattle.rcell_script.specs.declared.statement.Statement.{Statement}
use Rattle.rcell.specs.Loading.{shelf_of_grids}
use Rattle.rcell.specs.ScriptText.{script_text_or_fault}
use Rattle.rcell.specs.Sources.{Named}
use Rattle.rcell.specs.declared.run_fault.RunFault.{RunFault}
use Rattle.rcell.specs.declared.run_fault.RunFault.TheVariants.{GridTwice, GridRegion, Grid, ScriptRead, ScriptSize, Script, Memory, Write}
use Rattle.rcell.specs.runs.Execution.{IsStoppedBeforeStatement, IsOutputPrefixWritten}
use Rattle.rcell.specs.runs.Outcomes.{IsFullOutputWritten}

-- the script denotes these statements over maps with these names
pub record ScriptDenotesStatements (known : List (List ℕ)) (script : ComingBytes)
    (statements : List Statement) : Type 0 where
  pub text : List ℕ
  pub bytes : script_text_or_fault script ≡ Ok text
  pub denoted : IsScript known text statements

-- the error in a script's text, if it has one
abbrev pub IsFaultOfScriptText : List (List ℕ) → Result (List ℕ) RunFault → RunFault → Type 0
IsFaultOfScriptText known (Err first) fault = fault ≡ first
IsFaultOfScriptText known (Ok text) fault = (inner : ScriptFault) × (IsScriptFault known text inner
    × (fault ≡ Script inner))

-- the error of a script: an error in reading its bytes; otherwise the first error in its lines
abbrev pub IsFaultOfScriptSource : List (List ℕ) → ComingBytes → RunFault → Type 0
IsFaultOfScriptSource known script fault = IsFaultOfScriptText known (script_text_or_fault script) fault

-- the error in the grids; if there is none, the error in the script over the grids' names
abbrev pub IsFaultOfGridsOrScript : ComingBytes → Result (Option ShelfValue) RunFault → RunFault → Type 0
IsFaultOfGridsOrScript script (Err first) fault = fault ≡ first
IsFaultOfGridsOrScript script (Ok None) fault = ⊥
IsFaultOfGridsOrScript script (Ok (Some shelf)) fault = IsFaultOfScriptSource shelf.names script fault

-- the first error in the grids and the script
abbrev pub IsFirstFaultOfInput : List Named → ComingBytes → RunFault → Type 0
IsFirstFaultOfInput grids script fault = IsFaultOfGridsOrScript script (shelf_of_grids grids) fault

-- the shelf contains the grids, and the script denotes the statements over it
pub record AreGridsAndScriptRead (grids : List Named) (script : ComingBytes) (shelf : ShelfValue) (statements : List Statement) : Type 0 where
  pub loaded : shelf_of_grids grids ≡ Ok (Some shelf)
  pub reads : ScriptDenotesStatements shelf.names script statements

-- a run of a script over grids succeeded
pub record IsRunSuccessful (grids : List Named) (script : ComingBytes) (before now : Option (List ℕ))
    (written : ℕ) : Type 0 where
  pub shelf : ShelfValue
  pub statements : List Statement
  pub read : AreGridsAndScriptRead grids script shelf statements
  pub done : IsFullOutputWritten shelf statements before now written

-- a run stopped during execution: memory ran out before a statement, or the sink failed
abbrev pub RunStopsDuringExecution : ShelfValue → List Statement → Option (List ℕ) → Option (List ℕ) → ℕ → RunFault
    → Type 0
RunStopsDuringExecution shelf statements before now written (Memory line) = IsStoppedBeforeStatement shelf statements
    before now
    written line
RunStopsDuringExecution shelf statements before now written Write = IsOutputPrefixWritten shelf statements before now
    written
RunStopsDuringExecution shelf statements before now written (GridTwice grid) = ⊥
RunStopsDuringExecution shelf statements before now written (GridRegion grid) = ⊥
RunStopsDuringExecution shelf statements before now written (Grid grid fault) = ⊥
RunStopsDuringExecution shelf statements before now written ScriptRead = ⊥
RunStopsDuringExecution shelf statements before now written ScriptSize = ⊥
RunStopsDuringExecution shelf statements before now written (Script fault) = ⊥

-- a run of a script over grids stopped during execution
pub record IsRunStoppedDuringExecution (grids : List Named) (script : ComingBytes) (before now : Option (List ℕ)) (written : ℕ) (fault : RunFault) : Type 0 where
  pub shelf : ShelfValue
  pub statements : List Statement
  pub read : AreGridsAndScriptRead grids script shelf statements
  pub stops : RunStopsDuringExecution shelf statements before now written fault
