-- A law of all script texts.
use Rattle.std.specs.Prelude.{ℕ, ◌⊎◌, List}
use Rattle.rcell_script.specs.declared.script_fault.ScriptFault.{ScriptFault}
use Rattle.rcell_script.specs.ReadScripts.{IsScriptFault}
use Rattle.rcell_script.specs.Scripts.{IsScript}
use Rattle.rcell_script.specs.declared.statement.Statement.{Statement}

-- the text is a script of some statements, and has no error
abbrev pub IsScriptWithoutFault : List (List ℕ) → List ℕ → Type 0
IsScriptWithoutFault known text =
    (statements : List Statement) × IsScript known text statements
    × ((fault : ScriptFault) → IsScriptFault known text fault → ⊥)

-- the text has a first error, and is not a script
abbrev pub IsTextWithScriptFault : List (List ℕ) → List ℕ → Type 0
IsTextWithScriptFault known text =
    (fault : ScriptFault) × IsScriptFault known text fault
    × ((statements : List Statement) → IsScript known text statements → ⊥)

-- over any known maps, each text is either good or bad
abbrev pub TextsAreScriptsOrHaveFault : Type 0
TextsAreScriptsOrHaveFault = (known : List (List ℕ)) (text : List ℕ)
    → IsScriptWithoutFault known text ⊎ IsTextWithScriptFault known text
