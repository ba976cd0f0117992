-- The result of reading a script.
use Rattle.std.specs.Prelude.{ℕ, ◌≡◌, List}
use Rattle.cell_core_devices.specs.Device.{ComingBytes}
use Rattle.rcell_script.specs.declared.statement.Statement.{Statement}
use Rattle.rcell.specs.declared.run_fault.RunFault.{RunFault}
use Rattle.rcell.specs.runs.Endings.{ScriptDenotesStatements, IsFaultOfScriptSource}

-- the script denotes exactly these statements
pub record ScriptDenotesOnlyStatements (known : List (List ℕ)) (script : ComingBytes)
    (statements : List Statement) : Type 0 where
  pub reads : ScriptDenotesStatements known script statements
  pub only : (others : List Statement) → ScriptDenotesStatements known script others → statements ≡ others

-- the script has this error, and denotes no statements
pub record ScriptIsRejectedWithFault (known : List (List ℕ)) (script : ComingBytes) (fault : RunFault) : Type 0 where
  pub refusal : IsFaultOfScriptSource known script fault
  pub none : (statements : List Statement) → ScriptDenotesStatements known script statements → ⊥
