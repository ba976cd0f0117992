-- A text that is a script has only one reading.
use Rattle.std.proofs.Common.{◌≡◌, ℕ, ◌+◌, List, [], ◌∷◌, Option, Some, None, Result, Ok, Err, MatchResult, ap, sym, ◌∙◌, subst}
use Rattle.std.specs.Prelude.{nat_lt, length, Bool, true, false}
use Rattle.cell_core_values.specs.Words.{words_of_line}
use Rattle.rcell_script.specs.Commands.{is_mapcalc_line, IsMeaningOfShortLine, IsMeaningByLineLength, IsLineMeaning}
use Rattle.rcell_script.specs.ScriptsRead.{IsStateAfterLineInReclassRules, IsScriptReading, state_after_line_meaning}
use Rattle.rcell_script.specs.ScriptsRead.{state_before_first_line}
use Rattle.rcell_script.specs.Lines.{script_lines}
use Rattle.rcell_script.specs.Scripts.{IsScript}
use Rattle.rcell_script.specs.ReadScripts.{IsReadAsStatements, IsScriptFault}
use Rattle.rcell_script.specs.ScriptLaw.{TextDenotesAtMostOneScript, ScriptsHaveNoFault, ScriptReadingMatchesMeaning}
use Rattle.rcell_script.proofs.CalcLemmas.{OneAssignment, one_mapcalc}
use Rattle.rcell_script.proofs.GroupingLemmas.{read-grouped}
use Rattle.rcell_script.specs.declared.script_fault.ScriptFault.{ScriptFault}
use Rattle.rcell_script.specs.declared.script_fault.ScriptKind.{ScriptKind}
use Rattle.rcell_script.specs.declared.heads.ScriptLineMeaning.{ScriptLineMeaning}
use Rattle.rcell_script.specs.declared.line_reading.UnfinishedReclass.{UnfinishedReclass}
use Rattle.rcell_script.specs.declared.line_reading.ScriptReadingState.{ScriptReadingState}
use Rattle.rcell_script.specs.declared.statement.Statement.{Statement}

one_short : OneAssignment → (mapcalc : Bool) (known : List (List ℕ)) (l : List ℕ) (head : ScriptLineMeaning) (other : Result ScriptLineMeaning ScriptKind) → IsMeaningOfShortLine mapcalc known l (Ok head) → IsMeaningOfShortLine mapcalc known l other → other ≡ Ok head
one_short one true known l head other h o = one_mapcalc one known l head other h o
one_short one false known l head other h o = sym o ∙ h

one_head_of : OneAssignment → (long : Bool) (known : List (List ℕ)) (l : List ℕ) (head : ScriptLineMeaning) (other : Result ScriptLineMeaning ScriptKind) → IsMeaningByLineLength long known l (Ok head) → IsMeaningByLineLength long known l other → other ≡ Ok head
one_head_of one true known l head other h o = sym o ∙ h
one_head_of one false known l head other h o = one_short one (is_mapcalc_line (words_of_line l)) known l head other h o

-- a line without an error has only one reading
one_head : OneAssignment → (known : List (List ℕ)) (l : List ℕ) (head : ScriptLineMeaning) (other : Result ScriptLineMeaning ScriptKind) → IsLineMeaning known l (Ok head) → IsLineMeaning known l other → other ≡ Ok head
one_head one known l head other h o = one_head_of one (nat_lt 65535 (length l)) known l head other h o

one_next : OneAssignment → (pending : Option UnfinishedReclass) (line : ℕ) (read more : ScriptReadingState) (l : List ℕ) (other : Result ScriptReadingState ScriptFault) → IsStateAfterLineInReclassRules pending line read l (Ok more) → IsStateAfterLineInReclassRules pending line read l other → other ≡ Ok more
one_next one (Some block) line read more l other h o = o ∙ sym h
one_next one None line read more l other (Err kind, is, e) o = cc
one_next one None line read more l other (Ok head, is, e) (head', is', e') = e' ∙ ap (state_after_line_meaning line read) (one_head one read.known l head head' is is') ∙ sym e

pub one_reading : OneAssignment → (line : ℕ) (read : ScriptReadingState) (ls : List (List ℕ)) (statements : List Statement) (r : Result (List Statement) ScriptFault) → IsScriptReading line read ls (Ok statements) → IsScriptReading line read ls r → r ≡ Ok statements
one_reading one line read [] statements r h o = sym o ∙ h
one_reading one line read (l ∷ ls) statements r (Err fault, is, e) o = cc
one_reading one line read (l ∷ ls) statements r (Ok more, is, rest) (other, is', rest') =
    let same : other ≡ Ok more = one_next one read.pending line read more l other is is' in
    one_reading one (line + 1) more ls statements r rest (subst (λ (n : Result ScriptReadingState ScriptFault). MatchResult n (λ more. IsScriptReading (line + 1) more ls r) (λ fault. Err fault ≡ r)) same rest')

pub text_denotes_at_most_one_script : OneAssignment → TextDenotesAtMostOneScript
unfolding IsScript
text_denotes_at_most_one_script one known text a b h o =
    let same = one_reading one 1 (state_before_first_line known) (script_lines text) b (Ok a) ((read-grouped known text b).1 o) ((read-grouped known text a).1 h) in
    cc

pub scripts_have_no_fault : OneAssignment → ScriptsHaveNoFault
unfolding IsScript IsScriptFault
scripts_have_no_fault one known text a fault h o =
    let same = one_reading one 1 (state_before_first_line known) (script_lines text) a (Err fault)
    ((read-grouped known text a).1 h) o in
    cc

pub reading-denotes : ScriptReadingMatchesMeaning
unfolding IsScript IsReadAsStatements
reading-denotes known text statements = read-grouped known text statements
