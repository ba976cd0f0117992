-- The errors of a run: when each is reported, and which grid it names (profile).
use Rattle.std.specs.Prelude.{ℕ, ◌≡◌, ◌≢◌, ◌<◌, ⊤, Result, Ok, Err}
use Rattle.cell_ascii_meaning.specs.declared.grid_fault.GridKind.TheVariants as grid_kinds
use Rattle.rcell_script.specs.declared.script_fault.ScriptKind.TheVariants as script_kinds
use Rattle.rcell.specs.declared.run_fault.RunFault.{RunFault}
use Rattle.rcell.specs.declared.run_fault.RunFault.TheVariants.{GridTwice, GridRegion, Grid, ScriptRead, ScriptSize, Script, Memory, Write}

-- an error in the input: memory did not run out, and no write failed
abbrev pub IsInputFault : RunFault → Type 0
IsInputFault (GridTwice grid) = ⊤
IsInputFault (GridRegion grid) = ⊤
IsInputFault (Grid grid fault) = fault.kind ≢ grid_kinds.Memory
IsInputFault ScriptRead = ⊤
IsInputFault ScriptSize = ⊤
IsInputFault (Script fault) = fault.kind ≢ script_kinds.Memory
IsInputFault (Memory line) = ⊥
IsInputFault Write = ⊥

-- if the error names a grid, it names this one
abbrev pub FaultNamesNoOtherGrid : ℕ → RunFault → Type 0
FaultNamesNoOtherGrid grid (GridTwice named) = named ≡ grid
FaultNamesNoOtherGrid grid (GridRegion named) = named ≡ grid
FaultNamesNoOtherGrid grid (Grid named fault) = named ≡ grid
FaultNamesNoOtherGrid grid ScriptRead = ⊤
FaultNamesNoOtherGrid grid ScriptSize = ⊤
FaultNamesNoOtherGrid grid (Script fault) = ⊤
FaultNamesNoOtherGrid grid (Memory line) = ⊤
FaultNamesNoOtherGrid grid Write = ⊤

-- an error that is reported before the script is accepted
abbrev pub IsFaultBeforeExecution : RunFault → Type 0
IsFaultBeforeExecution (GridTwice grid) = ⊤
IsFaultBeforeExecution (GridRegion grid) = ⊤
IsFaultBeforeExecution (Grid grid fault) = ⊤
IsFaultBeforeExecution ScriptRead = ⊤
IsFaultBeforeExecution ScriptSize = ⊤
IsFaultBeforeExecution (Script fault) = ⊤
IsFaultBeforeExecution (Memory line) = line ≡ 0
IsFaultBeforeExecution Write = ⊥

-- an error that is reported after the script is accepted
abbrev pub IsFaultInExecution : RunFault → Type 0
IsFaultInExecution (GridTwice grid) = ⊥
IsFaultInExecution (GridRegion grid) = ⊥
IsFaultInExecution (Grid grid fault) = ⊥
IsFaultInExecution ScriptRead = ⊥
IsFaultInExecution ScriptSize = ⊥
IsFaultInExecution (Script fault) = ⊥
IsFaultInExecution (Memory line) = 0 < line
IsFaultInExecution Write = ⊤

-- the error names one of the grids; if memory runs out while a grid or the script is read, the line is 0
abbrev pub FaultNamesOneOfGrids : ℕ → RunFault → Type 0
FaultNamesOneOfGrids grids (GridTwice grid) = grid < grids
FaultNamesOneOfGrids grids (GridRegion grid) = grid < grids
FaultNamesOneOfGrids grids (Grid grid fault) = (grid < grids) × (fault.kind ≢ grid_kinds.Failed) × (fault.kind ≡ grid_kinds.Memory → fault.line ≡ 0)
FaultNamesOneOfGrids grids ScriptRead = ⊤
FaultNamesOneOfGrids grids ScriptSize = ⊤
FaultNamesOneOfGrids grids (Script fault) = fault.kind ≡ script_kinds.Memory → fault.line ≡ 0
FaultNamesOneOfGrids grids (Memory line) = ⊤
FaultNamesOneOfGrids grids Write = ⊤

-- an error in the script is reported before execution, and does not name a grid
pub record IsFaultInScript (fault : RunFault) : Type 0 where
  pub early : IsFaultBeforeExecution fault
  pub reported : (grids : ℕ) → FaultNamesOneOfGrids grids fault

-- a value, seen through `view`, is the reading's value; an error in the input is the reading's error
abbrev pub ResultAgreesWithInputReading : {A B : Type 0} → (A → B) → Result A RunFault → Result B RunFault → Type 0
ResultAgreesWithInputReading view (Ok x) reading = reading ≡ Ok (view x)
ResultAgreesWithInputReading view (Err fault) reading = IsInputFault fault → reading ≡ Err fault
