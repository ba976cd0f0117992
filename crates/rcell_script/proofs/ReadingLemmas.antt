-- Reading the lines of a script one after another.
use Rattle.std.proofs.Common.{◌≡◌, ◌≢◌, ℕ, ◌+◌, ◌<◌, List, [], ◌∷◌, length, get_or, Result, Ok, Err, IfOk, IfErr, Bor, map, drop, add-one, ◌≤◌, refl, ap, sym, subst}
use Rattle.std.proofs.Math.Seq.{drop-cons}
use Rattle.std.proofs.lemmas.List.{drop_all}
use Rattle.rcell_script.specs.Lines.{script_lines}
use Rattle.rcell_script.specs.ScriptsRead.{state_before_first_line, statements_after_last_line, IsStateAfterLine}
use Rattle.rcell_script.specs.ScriptsRead.{IsScriptReading}
use Rattle.rcell_script.specs.Scripts.{IsScript}
use Rattle.rcell_script.specs.ReadScripts.{IsScriptFault}
use Rattle.rcell_script.specs.declared.script_fault.ScriptFault.{ScriptFault}
use Rattle.rcell_script.specs.declared.script_fault.ScriptKind.TheVariants.{Memory}
use Rattle.rcell_script.specs.declared.line_reading.ScriptReadingState.{ScriptReadingState}
use Rattle.rcell_script.specs.declared.statement.Statement.{Statement}
use Rattle.rcell_script.proofs.GroupingLemmas.{read-grouped}

abbrev pub values_of_borrowed_texts : List (Bor (List ℕ)) → List (List ℕ)
values_of_borrowed_texts xs = map (λ w. w.now) xs

-- the reading from line i on is the reading of all lines
abbrev pub Stands : (Result (List Statement) ScriptFault → Type 0) → ScriptReadingState → List (Bor (List ℕ)) → ℕ
    → Type 0
Stands all read lines i = (r : Result (List Statement) ScriptFault) → IsScriptReading (i + 1) read (values_of_borrowed_texts (drop i lines)) r → all r

-- the lines from place i on are the line there and those after it
cut : (lines : List (Bor (List ℕ))) (i : ℕ) (d : Bor (List ℕ)) → i < length lines → values_of_borrowed_texts (drop i lines) ≡ (get_or lines i d).now ∷ values_of_borrowed_texts (drop (i + 1) lines)
cut lines i d h =
    let whole : drop i lines ≡ get_or lines i d ∷ drop (i + 1) lines = rw add-one (drop-cons lines i d h) in
    ap values_of_borrowed_texts whole

-- a line is read
pub Stands-more : (all : Result (List Statement) ScriptFault → Type 0) (read more : ScriptReadingState) (lines : List (Bor (List ℕ))) (i : ℕ) (d : Bor (List ℕ)) → i < length lines
    → Stands all read lines i → IsStateAfterLine (i + 1) read (get_or lines i d).now (Ok more)
    → Stands all more lines (i + 1)
Stands-more all read more lines i d h stands next r rest =
    stands r (subst (λ ls. IsScriptReading (i + 1) read ls r) (sym (cut lines i d h)) (Ok more, next, rest))

-- a line has an error, which is the error of the text
pub Stands-fault : (all : Result (List Statement) ScriptFault → Type 0) (read : ScriptReadingState) (lines : List (Bor (List ℕ))) (i : ℕ) (d : Bor (List ℕ)) (fault : ScriptFault) → i < length lines
    → Stands all read lines i → IsStateAfterLine (i + 1) read (get_or lines i d).now (Err fault) → all (Err fault)
Stands-fault all read lines i d fault h stands next =
    stands (Err fault) (subst (λ ls. IsScriptReading (i + 1) read ls (Err fault)) (sym (cut lines i d h)) (Err fault, next, refl))

-- at the start, all lines are left
pub Stands-start : (known : List (List ℕ)) (text : List ℕ) (lines : List (Bor (List ℕ))) → values_of_borrowed_texts lines ≡ script_lines text → Stands (IsScriptReading 1 (state_before_first_line known) (script_lines text)) (state_before_first_line known) lines 0
Stands-start known text lines e r given = subst (λ ls. IsScriptReading 1 (state_before_first_line known) ls r) e given

-- the error of a line is the error of the text
pub fault_of_line : (known : List (List ℕ)) (text : List ℕ) (read : ScriptReadingState) (lines : List (Bor (List ℕ))) (i : ℕ) (d : Bor (List ℕ)) (fault : ScriptFault) → i < length lines
    → Stands (IsScriptReading 1 (state_before_first_line known) (script_lines text)) read lines i → IsStateAfterLine (i + 1) read (get_or lines i d).now (Err fault) → IsScriptFault known text fault
unfolding IsScriptFault
fault_of_line known text read lines i d fault h stands next = Stands-fault (IsScriptReading 1 (state_before_first_line known) (script_lines text)) read lines i d fault h stands next

none_left : (lines : List (Bor (List ℕ))) (i : ℕ) → length lines ≤ i → values_of_borrowed_texts (drop i lines) ≡ []
none_left lines i h = ap values_of_borrowed_texts (drop_all i lines h)

-- at the end, no lines are left
at_end-all : (all : Result (List Statement) ScriptFault → Type 0) (read : ScriptReadingState) (lines : List (Bor (List ℕ))) (i : ℕ) → length lines ≤ i → Stands all read lines i → all (statements_after_last_line read)
at_end-all all read lines i h stands = stands (statements_after_last_line read) (subst (λ ls. IsScriptReading (i + 1) read ls (statements_after_last_line read)) (sym (none_left lines i h)) refl)

-- the statements at the end are the statements of the text
pub script_at_end : (known : List (List ℕ)) (text : List ℕ) (read : ScriptReadingState) (lines : List (Bor (List ℕ))) (i : ℕ) (r : Result (List Statement) ScriptFault) → length lines ≤ i
    → Stands (IsScriptReading 1 (state_before_first_line known) (script_lines text)) read lines i → r ≡ statements_after_last_line read → IfOk r (λ statements. IsScript known text statements)
unfolding IsScript
script_at_end known text read lines i (Ok statements) h stands e =
    (read-grouped known text statements).0 (subst (IsScriptReading 1 (state_before_first_line known) (script_lines text)) (sym e) (at_end-all (IsScriptReading 1 (state_before_first_line known) (script_lines text)) read lines i h stands))
script_at_end known text read lines i (Err fault) h stands e = record {}

-- an error at the end is the error of the text
pub fault_at_end : (known : List (List ℕ)) (text : List ℕ) (read : ScriptReadingState) (lines : List (Bor (List ℕ))) (i : ℕ) (r : Result (List Statement) ScriptFault) → length lines ≤ i
    → Stands (IsScriptReading 1 (state_before_first_line known) (script_lines text)) read lines i → r ≡ statements_after_last_line read → IfErr r (λ fault. fault.kind ≢ Memory → IsScriptFault known text fault)
unfolding IsScriptFault
fault_at_end known text read lines i (Ok statements) h stands e = record {}
fault_at_end known text read lines i (Err fault) h stands e =
    λ _. subst (IsScriptReading 1 (state_before_first_line known) (script_lines text)) (sym e) (at_end-all (IsScriptReading 1 (state_before_first_line known) (script_lines text)) read lines i h stands)
