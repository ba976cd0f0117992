-- Reads a script line by line from the top, to its end or its first error (profile).
use Rattle.std.specs.Prelude.{ℕ, ◌≡◌, ◌+◌, List, [], ◌∷◌, ◌++◌, nat_lt, length, Option, Some, None, Result, Ok, Err, MatchResult, if◌then◌else◌}
use Rattle.cell_cats.specs.Rule.{RuleValue}
use Rattle.cell_cats.specs.RuleReading.{line_kind_and_rules_after_line}
use Rattle.cell_cats.specs.declared.rules.LineKind.{LineKind}
use Rattle.cell_cats.specs.declared.rules.LineKind.TheVariants as line_kind
use Rattle.cell_cats.specs.declared.rules.RuleFault.{RuleFault}
use Rattle.rcell_script.specs.Commands.{IsLineMeaning}
use Rattle.rcell_script.specs.KnownMaps.{known_names_after_command}
use Rattle.rcell_script.specs.declared.script_fault.ScriptFault.{ScriptFault}
use Rattle.rcell_script.specs.declared.script_fault.ScriptKind.{ScriptKind}
use Rattle.rcell_script.specs.declared.script_fault.ScriptKind.TheVariants.{LongLine, MissingEnd}
use Rattle.rcell_script.specs.ScriptFaults.{script_kind_of_rule_fault}
use Rattle.rcell_script.specs.declared.heads.ScriptLineMeaning.{ScriptLineMeaning}
use Rattle.rcell_script.specs.declared.heads.ScriptLineMeaning.TheVariants.{Skipped, Whole, Opened}
use Rattle.rcell_script.specs.declared.line_reading.UnfinishedReclass.{UnfinishedReclass}
use Rattle.rcell_script.specs.declared.line_reading.ScriptReadingState.{ScriptReadingState}
use Rattle.rcell_script.specs.declared.command.Command.{Command}
use Rattle.rcell_script.specs.declared.command.Command.TheVariants.{Reclass}
use Rattle.rcell_script.specs.declared.statement.Statement.{Statement}

-- the state before the first line
abbrev pub state_before_first_line : List (List ℕ) → ScriptReadingState
state_before_first_line known = record { known = known; statements = []; pending = None }

abbrev pub script_fault_at_line : ℕ → ScriptKind → ScriptFault
script_fault_at_line line kind = record { kind = kind; line = line }

-- adds a statement; the map that it makes is known to the next statements
abbrev pub state_with_statement : ℕ → Command → ScriptReadingState → ScriptReadingState
state_with_statement line command read =
    record { known = known_names_after_command read.known command; statements = read.statements ++ (record { line = line; command = command }) ∷ []; pending = None }

-- the state after a line outside the rules of an r.reclass
abbrev pub state_after_line_meaning : ℕ → ScriptReadingState → Result ScriptLineMeaning ScriptKind
    → Result ScriptReadingState ScriptFault
state_after_line_meaning line read (Err kind) = Err (script_fault_at_line line kind)
state_after_line_meaning line read (Ok Skipped) = Ok read
state_after_line_meaning line read (Ok (Whole command)) = Ok (state_with_statement line command read)
state_after_line_meaning line read (Ok (Opened place target)) = Ok (record read { pending = Some (record { line = line; place = place; target = target; rules = [] }) })

abbrev pub rule_result_as_script_result : Result (LineKind × List RuleValue) RuleFault
    → Result (LineKind × List RuleValue) ScriptKind
rule_result_as_script_result (Ok x) = Ok x
rule_result_as_script_result (Err fault) = Err (script_kind_of_rule_fault fault)

-- the kind of a line among rules, and the rules after it, or an error
abbrev pub kind_and_rules_after_rule_line : List RuleValue → List ℕ → Result (LineKind × List RuleValue) ScriptKind
kind_and_rules_after_rule_line rules l = if nat_lt 65535 (length l) then Err LongLine else rule_result_as_script_result
    (line_kind_and_rules_after_line rules l)

-- the state after a line among rules: `end` completes the statement, which has the line of its r.reclass
abbrev pub state_after_rule_line : ℕ → ScriptReadingState → UnfinishedReclass → Result (LineKind × List RuleValue) ScriptKind → Result ScriptReadingState ScriptFault
state_after_rule_line line read block (Err kind) = Err (script_fault_at_line line kind)
state_after_rule_line line read block (Ok x) = by x.0
  where
    by : LineKind → Result ScriptReadingState ScriptFault
    by line_kind.End = Ok (state_with_statement block.line (Reclass block.place block.target block.rules) read)
    by line_kind.Skipped = Ok (record read { pending = Some (record block { rules = x.1 }) })
    by line_kind.Rule = Ok (record read { pending = Some (record block { rules = x.1 }) })

-- the state after one more line, which is among the rules of `block` if one is open
abbrev pub IsStateAfterLineInReclassRules : Option UnfinishedReclass → ℕ → ScriptReadingState → List ℕ
    → Result ScriptReadingState ScriptFault → Type 0
IsStateAfterLineInReclassRules None line read l next = (head : Result ScriptLineMeaning ScriptKind) × IsLineMeaning read.known l head × (next ≡ state_after_line_meaning line read head)
IsStateAfterLineInReclassRules (Some block) line read l next = next ≡ state_after_rule_line line (record read { pending = None }) block (kind_and_rules_after_rule_line block.rules l)

-- the state after one more line
abbrev pub IsStateAfterLine : ℕ → ScriptReadingState → List ℕ → Result ScriptReadingState ScriptFault → Type 0
IsStateAfterLine line read l next = IsStateAfterLineInReclassRules read.pending line read l next

-- the result after the last line: if the rules of an r.reclass have no `end`, an error at the line of the r.reclass
abbrev pub statements_after_last_line : ScriptReadingState → Result (List Statement) ScriptFault
statements_after_last_line read = by read.pending
  where
    by : Option UnfinishedReclass → Result (List Statement) ScriptFault
    by None = Ok read.statements
    by (Some block) = Err (script_fault_at_line block.line MissingEnd)

-- the result of reading the lines from number `line` on: the statements, or the first error
abbrev pub IsScriptReading : ℕ → ScriptReadingState → List (List ℕ) → Result (List Statement) ScriptFault → Type 0
IsScriptReading line read [] result = statements_after_last_line read ≡ result
IsScriptReading line read (l ∷ ls) result =
    (next : Result ScriptReadingState ScriptFault) × IsStateAfterLine line read l next × MatchResult next (λ more. IsScriptReading (line + 1) more ls result) (λ fault. Err fault ≡ result)
