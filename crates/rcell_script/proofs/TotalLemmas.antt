-- Each text is read to its end or to its first error, given that each line has a reading.
use Rattle.std.proofs.Common.{ℕ, ◌+◌, List, [], ◌∷◌, Option, Some, None, Result, Ok, Err, refl}
use Rattle.rcell_script.specs.Commands.{IsLineMeaning}
use Rattle.rcell_script.specs.declared.script_fault.ScriptFault.{ScriptFault}
use Rattle.rcell_script.specs.declared.script_fault.ScriptKind.{ScriptKind}
use Rattle.rcell_script.specs.declared.heads.ScriptLineMeaning.{ScriptLineMeaning}
use Rattle.rcell_script.specs.Lines.{script_lines}
use Rattle.rcell_script.specs.ScriptsRead.{state_before_first_line, statements_after_last_line, state_after_line_meaning, state_after_rule_line, kind_and_rules_after_rule_line, IsStateAfterLineInReclassRules, IsStateAfterLine, IsScriptReading}
use Rattle.rcell_script.specs.declared.line_reading.UnfinishedReclass.{UnfinishedReclass}
use Rattle.rcell_script.specs.declared.line_reading.ScriptReadingState.{ScriptReadingState}
use Rattle.rcell_script.specs.declared.statement.Statement.{Statement}

-- each line outside the rules of an r.reclass has a reading, over any known maps
abbrev pub EachLineIsHead : Type 0
EachLineIsHead = (known : List (List ℕ)) (line : List ℕ) → (head : Result ScriptLineMeaning ScriptKind)
    × IsLineMeaning known line head

next_to : EachLineIsHead → (pending : Option UnfinishedReclass) (line : ℕ) (read : ScriptReadingState) (l : List ℕ) → (next : Result ScriptReadingState ScriptFault) × IsStateAfterLineInReclassRules pending line read l next
next_to heads None line read l =
    let h = heads read.known l in
    (state_after_line_meaning line read h.0, (h.0, h.1, refl))
next_to heads (Some block) line read l = (state_after_rule_line line (record read { pending = None }) block (kind_and_rules_after_rule_line block.rules l), refl)

-- if the later lines have a reading, so do a line and the later lines
then_rest : (ls : List (List ℕ)) (l : List ℕ) (line : ℕ) (read : ScriptReadingState) → ((more : ScriptReadingState) → (r : Result (List Statement) ScriptFault) × IsScriptReading (line + 1) more ls r)
    → (next : Result ScriptReadingState ScriptFault) → IsStateAfterLine line read l next → (r : Result (List Statement) ScriptFault) × IsScriptReading line read (l ∷ ls) r
then_rest ls l line read rest (Ok more) is =
    let others = rest more in
    (others.0, (Ok more, is, others.1))
then_rest ls l line read rest (Err reported) is = (Err reported, (Err reported, is, refl))

read_lines : EachLineIsHead → (ls : List (List ℕ)) (line : ℕ) (read : ScriptReadingState) → (r : Result (List Statement) ScriptFault) × IsScriptReading line read ls r
read_lines heads [] line read = (statements_after_last_line read, refl)
read_lines heads (l ∷ ls) line read =
    let next = next_to heads read.pending line read l in
    then_rest ls l line read (λ more. read_lines heads ls (line + 1) more) next.0 next.1

pub read_somehow : EachLineIsHead → (known : List (List ℕ)) (text : List ℕ) → (r : Result (List Statement) ScriptFault) × IsScriptReading 1 (state_before_first_line known) (script_lines text) r
read_somehow heads known text = read_lines heads (script_lines text) 1 (state_before_first_line known)
