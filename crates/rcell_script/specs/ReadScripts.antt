-- How a text is read as statements, and its error if it is not a script (profile).
use Rattle.std.specs.Prelude.{ℕ, ◌≡◌, List, Ok, Err}
use Rattle.rcell_script.specs.Lines.{script_lines}
use Rattle.rcell_script.specs.ScriptsRead.{IsScriptReading, state_before_first_line}
use Rattle.rcell_script.specs.declared.script_fault.ScriptFault.{ScriptFault}
use Rattle.rcell_script.specs.declared.script_fault.ScriptKind.TheVariants.{Memory}
use Rattle.rcell_script.specs.declared.statement.Statement.{Statement}

-- the text is read as these statements, line by line from the top
unfoldable pub IsReadAsStatements : List (List ℕ) → List ℕ → List Statement → Type 0
IsReadAsStatements known text statements = IsScriptReading 1 (state_before_first_line known) (script_lines text)
    (Ok statements)

-- the text is not a script, and this is its first error, line by line from the top
unfoldable pub IsScriptFault : List (List ℕ) → List ℕ → ScriptFault → Type 0
IsScriptFault known text fault = IsScriptReading 1 (state_before_first_line known) (script_lines text) (Err fault)

-- an error that memory ran out is reported at line 0
abbrev pub ReportsMemoryAtLineZero : ScriptFault → Type 0
ReportsMemoryAtLineZero fault = fault.kind ≡ Memory → fault.line ≡ 0
