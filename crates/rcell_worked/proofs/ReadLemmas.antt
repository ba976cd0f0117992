-- Reading a script line by line.
use Rattle.std.proofs.Common.{◌≡◌, ℕ, List, Ok, sym, subst}
use Rattle.rcell_script.specs.Lines.{script_lines}
use Rattle.rcell_script.specs.ReadScripts.{IsReadAsStatements}
use Rattle.rcell_script.specs.ScriptLaw.{ScriptReadingMatchesMeaning}
use Rattle.rcell_script.specs.Scripts.{IsScript}
use Rattle.rcell_script.specs.ScriptsRead.{IsScriptReading, state_before_first_line}
use Rattle.rcell_script.specs.declared.statement.Statement.{Statement}

read_as : (known : List (List ℕ)) (text : List ℕ) (statements : List Statement)
    → IsScriptReading 1 (state_before_first_line known) (script_lines text) (Ok statements)
    → IsReadAsStatements known text statements
unfolding IsReadAsStatements
read_as known text statements read = read

-- a text whose lines are read as the statements is a script of these statements
pub script_of : ScriptReadingMatchesMeaning → (known : List (List ℕ)) (text : List ℕ) (lines : List (List ℕ))
    (statements : List Statement)
    → script_lines text ≡ lines → IsScriptReading 1 (state_before_first_line known) lines (Ok statements)
    → IsScript known text statements
script_of law known text lines statements same read =
    (law known text statements).0 (read_as known text statements
    (subst (λ (ls : List (List ℕ)). IsScriptReading 1 (state_before_first_line known) ls (Ok statements))
    (sym same) read))
