-- The texts of a script's errors (profile).
use Rattle.std.specs.Prelude.{ℕ, List, ◌++◌, codes, decimal, Option, Some, None}
use Rattle.cell_calc_grammar.specs.declared.calc_fault.CalcKind.{CalcKind}
use Rattle.cell_calc_grammar.specs.declared.calc_fault.CalcKind.TheVariants as calc
use Rattle.cell_cats.specs.declared.rules.RuleFault.{RuleFault}
use Rattle.cell_cats.specs.declared.rules.RuleFault.TheVariants as rule
use Rattle.cell_stats_combinations.specs.declared.combination_text.ComboFault.{ComboFault}
use Rattle.cell_stats_combinations.specs.declared.combination_text.ComboFault.TheVariants as combo
use Rattle.rcell_script.specs.declared.script_fault.ScriptKind.{ScriptKind}
use Rattle.rcell_script.specs.declared.script_fault.ScriptKind.TheVariants.{UnknownCommand, BadOption}
use Rattle.rcell_script.specs.declared.script_fault.ScriptKind.TheVariants.{MissingOption, UnknownMap}
use Rattle.rcell_script.specs.declared.script_fault.ScriptKind.TheVariants.{MapExists, Calc, Rule, Combo}
use Rattle.rcell_script.specs.declared.script_fault.ScriptKind.TheVariants.{MissingEnd, LongLine, BadName}
use Rattle.rcell_script.specs.declared.script_fault.ScriptKind.TheVariants.{Memory}

-- the text for an error in an expression
abbrev pub calc_error_words : CalcKind → List ℕ
calc_error_words calc.BadByte = codes "bad byte"
calc_error_words calc.BadNumber = codes "bad number"
calc_error_words calc.FloatNumber = codes "number not whole"
calc_error_words calc.Expected = codes "unexpected token"
calc_error_words calc.UnknownFunction = codes "unknown function"
calc_error_words calc.Arguments = codes "wrong number of arguments"
calc_error_words calc.BadOffset = codes "offset out of range"
calc_error_words calc.TooLong = codes "expression too long"
calc_error_words calc.BadName = codes "bad name"
calc_error_words calc.Memory = codes "no memory"
calc_error_words calc.UnknownMap = codes "unknown map"

-- the text for an error in a rule
abbrev pub rule_error_words : RuleFault → List ℕ
rule_error_words rule.BadRule = codes "bad rule"
rule_error_words rule.BadNumber = codes "bad number in rule"
rule_error_words rule.Memory = codes "no memory"

-- the text for an error in a combination
abbrev pub combination_error_words : ComboFault → List ℕ
combination_error_words combo.BadCombo = codes "bad combination"
combination_error_words combo.BadWidth = codes "combination of another width"
combination_error_words combo.Memory = codes "no memory"

-- the text for an error in a script
abbrev pub script_error_words : ScriptKind → List ℕ
script_error_words UnknownCommand = codes "unknown command"
script_error_words BadOption = codes "bad option"
script_error_words MissingOption = codes "missing option"
script_error_words UnknownMap = codes "unknown map"
script_error_words MapExists = codes "map exists"
script_error_words (Calc fault) = calc_error_words fault.kind
script_error_words (Rule fault) = rule_error_words fault
script_error_words (Combo fault) = combination_error_words fault
script_error_words MissingEnd = codes "missing end"
script_error_words LongLine = codes "line too long"
script_error_words BadName = codes "bad name"
script_error_words Memory = codes "no memory"

-- the column of an error in an expression
abbrev pub script_error_column : ScriptKind → Option ℕ
script_error_column (Calc fault) = Some fault.column
script_error_column kind = None

abbrev pub error_words_with_column : List ℕ → Option ℕ → List ℕ
error_words_with_column words None = words
error_words_with_column words (Some column) = words ++ codes " at column " ++ decimal column

-- the full text of an error: what is wrong and, for an expression, in which column
abbrev pub script_error_text : ScriptKind → List ℕ
script_error_text kind = error_words_with_column (script_error_words kind) (script_error_column kind)
