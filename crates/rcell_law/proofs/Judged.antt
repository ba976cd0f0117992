-- Each text of a script is read to its end or has a first error.
use Rattle.std.proofs.Common.{◌≡◌, ℕ, ◌+◌, Bool, true, false, List, Result, Ok, Err, MatchResult, refl, sym, ap, ◌∙◌, subst, ◌⊎◌, inl, inr}
use Rattle.std.specs.Prelude.{nat_lt, length, IsOkAnd}
use Rattle.cell_core_values.specs.Words.{words_of_line}
use Rattle.cell_calc_grammar.specs.declared.calc_fault.CalcFault.{CalcFault}
use Rattle.cell_calc_grammar.specs.declared.calc_fault.CalcKind.TheVariants as calc
use Rattle.cell_calc_grammar.specs.declared.token.TokenAtColumn.{TokenAtColumn}
use Rattle.cell_calc_grammar.specs.Tokens.{token_fault, token_list_of_text}
use Rattle.cell_calc_language.specs.declared.assignment.Assignment.{Assignment}
use Rattle.cell_calc_language.specs.Assignment.{AreTokensOfAssignment, IsAssignmentText}
use Rattle.cell_calc_language.specs.GrammarFault.{NextTokenShowsFault, IsGrammarFault, IsFaultOfAssignmentText}
use Rattle.cell_calc_language.proofs.Law.{one}
use Rattle.cell_calc_language.proofs.Judged.{IsJudged, each_judged}
use Rattle.rcell_script.specs.Commands.{mapcalc_command, IsMapcalcLineMeaning, meaning_of_line_words, is_mapcalc_line}
use Rattle.rcell_script.specs.Commands.{IsMeaningOfShortLine, IsMeaningByLineLength}
use Rattle.rcell_script.specs.RMapcalc.{assignment_with_blanked_command}
use Rattle.rcell_script.specs.declared.script_fault.ScriptFault.{ScriptFault}
use Rattle.rcell_script.specs.declared.script_fault.ScriptKind.{ScriptKind}
use Rattle.rcell_script.specs.declared.script_fault.ScriptKind.TheVariants.{Calc, LongLine}
use Rattle.rcell_script.specs.declared.heads.ScriptLineMeaning.{ScriptLineMeaning}
use Rattle.rcell_script.specs.Lines.{script_lines}
use Rattle.rcell_script.specs.ScriptsRead.{state_before_first_line, IsScriptReading}
use Rattle.rcell_script.specs.ReadScripts.{IsReadAsStatements, IsScriptFault}
use Rattle.rcell_script.specs.declared.statement.Statement.{Statement}
use Rattle.rcell_script.proofs.LawLemmas.{scripts_have_no_fault, reading-denotes}
use Rattle.rcell_script.proofs.TotalLemmas.{read_somehow}
use Rattle.rcell_law.specs.JudgedLaw.{IsScriptWithoutFault, IsTextWithScriptFault, TextsAreScriptsOrHaveFault}
use Rattle.rcell_law.proofs.Plain.{IsPlain, plain_list}

-- an error of the grammar is not an error of memory
grammar_plain : (end : ℕ) (ts : List TokenAtColumn) (reported : CalcFault) → IsGrammarFault end ts reported
    → reported.kind ≡ calc.Memory → ⊥
grammar_plain end ts reported (inl (before, rest, next, cut, reports, none), is) e = subst (λ k. NextTokenShowsFault k reported.column before next) e reports
grammar_plain end ts reported (inr (at, can, none), is) e = cc (ap (λ (x : CalcFault). x.kind) at)

-- a text is an assignment, or has an error other than an error of memory
abbrev IsJudgedText : List ℕ → Type 0
IsJudgedText text = ((a : Assignment) × IsAssignmentText text a) ⊎ ((reported : CalcFault) × IsFaultOfAssignmentText text reported × (reported.kind ≡ calc.Memory → ⊥))

judged_text : (text : List ℕ) → IsJudgedText text
judged_text text = go (token_list_of_text text) refl (plain_list text)
  where
    go : (r : Result (List TokenAtColumn) CalcFault) → token_list_of_text text ≡ r → IsPlain (token_list_of_text text)
        → IsJudgedText text
    go (Err reported) e plain =
        inr (reported, inr (subst (λ x. MatchResult x (λ ts. IsGrammarFault (length text + 1) ts reported) (λ first. reported ≡ first)) (sym e) refl), subst IsPlain e plain)
    go (Ok ts) e plain = by (each_judged (length text + 1) ts)
      where
        by : IsJudged (length text + 1) ts → IsJudgedText text
        by (inl (a, is)) = inl (a, subst (λ x. IsOkAnd x (λ us. AreTokensOfAssignment us a)) (sym e) is)
        by (inr (reported, is)) =
            inr (reported, inr (subst (λ x. MatchResult x (λ us. IsGrammarFault (length text + 1) us reported) (λ first. reported ≡ first)) (sym e) is), grammar_plain (length text + 1) ts reported is)

-- a reading of the text of an r.mapcalc gives a reading of its line
mapcalc_head : (known : List (List ℕ)) (line : List ℕ) → IsJudgedText (assignment_with_blanked_command line)
    → (head : Result ScriptLineMeaning ScriptKind) × IsMapcalcLineMeaning known line head
mapcalc_head known line (inl (a, is)) = (mapcalc_command known a, inl (a, is, refl))
mapcalc_head known line (inr (reported, is, plain)) = (Err (Calc reported), inr (reported, is, plain, refl))

short_head : (mapcalc : Bool) (known : List (List ℕ)) (line : List ℕ) → (head : Result ScriptLineMeaning ScriptKind) × IsMeaningOfShortLine mapcalc known line head
short_head true known line = mapcalc_head known line (judged_text (assignment_with_blanked_command line))
short_head false known line = (meaning_of_line_words known (words_of_line line), refl)

head_of : (long : Bool) (known : List (List ℕ)) (line : List ℕ) → (head : Result ScriptLineMeaning ScriptKind) × IsMeaningByLineLength long known line head
head_of true known line = (Err LongLine, refl)
head_of false known line = short_head (is_mapcalc_line (words_of_line line)) known line

pub texts_are_judged : TextsAreScriptsOrHaveFault
unfolding IsReadAsStatements IsScriptFault
texts_are_judged known text =
    let read = read_somehow (λ known line. head_of (nat_lt 65535 (length line)) known line) known text in
    go read.0 read.1
  where
    go : (r : Result (List Statement) ScriptFault) → IsScriptReading 1 (state_before_first_line known) (script_lines text) r → IsScriptWithoutFault known text ⊎ IsTextWithScriptFault known text
    go (Ok statements) is =
        let script = (reading-denotes known text statements).0 is in
        inl (statements, script, λ reported token_fault. scripts_have_no_fault one known text statements reported script token_fault)
    go (Err reported) is = inr (reported, is, λ statements script. scripts_have_no_fault one known text statements reported script is)
