-- Laws that hold for every text.
use Rattle.std.specs.Prelude.{ℕ, ◌≡◌, ◌↔◌, List}
use Rattle.rcell_script.specs.Scripts.{IsScript}
use Rattle.rcell_script.specs.ReadScripts.{IsReadAsStatements, IsScriptFault}
use Rattle.rcell_script.specs.declared.script_fault.ScriptFault.{ScriptFault}
use Rattle.rcell_script.specs.declared.statement.Statement.{Statement}

-- a text denotes at most one list of statements
abbrev pub TextDenotesAtMostOneScript : Type 0
TextDenotesAtMostOneScript = (known : List (List ℕ)) (text : List ℕ) (a b : List Statement) → IsScript known text a → IsScript known text b → a ≡ b

-- a script has no error
abbrev pub ScriptsHaveNoFault : Type 0
ScriptsHaveNoFault = (known : List (List ℕ)) (text : List ℕ) (a : List Statement) (fault : ScriptFault) → IsScript known text a → IsScriptFault known text fault → ⊥

-- a text is read as statements exactly if it is a script of these statements
abbrev pub ScriptReadingMatchesMeaning : Type 0
ScriptReadingMatchesMeaning = (known : List (List ℕ)) (text : List ℕ) (statements : List Statement) → IsReadAsStatements known text statements ↔ IsScript known text statements
