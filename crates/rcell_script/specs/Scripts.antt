-- Which texts are scripts, and of which statements (profile; commands: GRASS manual).
use Rattle.std.specs.Prelude.{ℕ, List, ◌≤◌, [], ◌∷◌, ◌++◌, length, All}
use Rattle.cell_cats.specs.Rule.{RuleValue}
use Rattle.rcell_script.specs.KnownMaps.{known_names_after_command}
use Rattle.rcell_script.specs.Lines.{script_lines, ScriptLine, numbered_lines}
use Rattle.rcell_script.specs.Skipped.{IsSkippedLine}
use Rattle.rcell_script.specs.RReclass.{SpellsReclassCommand}
use Rattle.rcell_script.specs.CommandSpelling.{SpellsCommand}
use Rattle.rcell_script.specs.ReclassRules.{EndsReclassRules, LinesSpellRules}
use Rattle.rcell_script.specs.declared.command.Command.{Command}
use Rattle.rcell_script.specs.declared.command.Command.TheVariants.{Reclass}
use Rattle.rcell_script.specs.declared.statement.Statement.{Statement}

-- how lines group into statements: one line per command, and for r.reclass also the lines of its rules and of `end`; a
-- map that a command makes is known to the statements after it
pub data LinesFormStatements : List (List ℕ) → List ScriptLine → List Statement → Type 0 where
  none : {known : List (List ℕ)} → LinesFormStatements known [] []
  skipped : {known : List (List ℕ)} {line : ScriptLine} {lines : List ScriptLine} {statements : List Statement}
      → IsSkippedLine line.bytes → LinesFormStatements known lines statements
      → LinesFormStatements known (line ∷ lines) statements
  command : {known : List (List ℕ)} {line : ScriptLine} {lines : List ScriptLine} {command : Command} {statements : List Statement}
      → SpellsCommand known line.bytes command → LinesFormStatements
      (known_names_after_command known command) lines statements
      → LinesFormStatements known (line ∷ lines) (record { line = line.number; command = command } ∷ statements)
  reclass : {known : List (List ℕ)} {line : ScriptLine} {inner lines : List ScriptLine} {place : ℕ} {target : List ℕ} {rules : List RuleValue} {statements : List Statement} (last : ScriptLine)
      → SpellsReclassCommand known line.bytes place target → LinesSpellRules inner rules → EndsReclassRules last.bytes → LinesFormStatements (known ++ target ∷ []) lines statements
      → LinesFormStatements known (line ∷ (inner ++ last ∷ lines)) (record { line = line.number; command = Reclass place target rules } ∷ statements)

-- no line is longer than 65535 bytes, and the lines group into the statements
pub record TextFormsStatements (known : List (List ℕ)) (text : List ℕ) (statements : List Statement) : Type 0 where
  pub short : All (λ l. length l ≤ 65535) (script_lines text)
  pub grouped : LinesFormStatements known (numbered_lines 1 (script_lines text)) statements

-- over the known maps, the text is a script of these statements
unfoldable pub IsScript : List (List ℕ) → List ℕ → List Statement → Type 0
IsScript known text statements = TextFormsStatements known text statements
