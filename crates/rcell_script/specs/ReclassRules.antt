-- The lines of an r.reclass's rules (r.reclass manual).
use Rattle.std.specs.Prelude.{ℕ, ◌≡◌, List, ◌∷◌, codes, []}
use Rattle.cell_cats.specs.Rule.{RuleValue}
use Rattle.cell_cats.specs.RuleLine.{SpellsRule}
use Rattle.rcell_script.specs.Skipped.{IsSkippedLine}
use Rattle.cell_core_values.specs.Blanks.{trimmed_text}
use Rattle.rcell_script.specs.Lines.{ScriptLine}

-- the line that ends the rules
abbrev pub EndsReclassRules : List ℕ → Type 0
EndsReclassRules bytes = trimmed_text bytes ≡ codes "end"

-- each line spells one rule; blank lines and comments are skipped
pub data LinesSpellRules : List ScriptLine → List RuleValue → Type 0 where
  none : LinesSpellRules [] []
  skipped : {line : ScriptLine} {lines : List ScriptLine} {rules : List RuleValue} → IsSkippedLine line.bytes → LinesSpellRules lines rules → LinesSpellRules (line ∷ lines) rules
  rule : {line : ScriptLine} {lines : List ScriptLine} {first : RuleValue} {rules : List RuleValue}
      → SpellsRule line.bytes first → LinesSpellRules lines rules → LinesSpellRules (line ∷ lines) (first ∷ rules)
