-- The assignment of a text has only one reading.
use Rattle.std.proofs.Common.{◌≡◌, ℕ, List, Result, Ok, Err, MatchResult, inl, inr, ap, sym, ◌∙◌}
use Rattle.std.specs.Prelude.{IsOkAnd}
use Rattle.cell_calc_language.specs.Assignment.{AreTokensOfAssignment}
use Rattle.cell_calc_language.specs.GrammarFault.{IsGrammarFault}
use Rattle.cell_calc_grammar.specs.Tokens.{token_list_of_text}
use Rattle.cell_calc_language.specs.declared.assignment.Assignment.{Assignment}
use Rattle.cell_calc_grammar.specs.declared.calc_fault.CalcFault.{CalcFault}
use Rattle.cell_calc_grammar.specs.declared.token.TokenAtColumn.{TokenAtColumn}
use Rattle.rcell_script.specs.Commands.{mapcalc_command, IsMapcalcLineMeaning}
use Rattle.rcell_script.specs.RMapcalc.{assignment_with_blanked_command}
use Rattle.rcell_script.specs.declared.script_fault.ScriptKind.{ScriptKind}
use Rattle.rcell_script.specs.declared.heads.ScriptLineMeaning.{ScriptLineMeaning}

-- a list of tokens stands for at most one assignment
abbrev pub OneAssignment : Type 0
OneAssignment = (ts : List TokenAtColumn) (a b : Assignment) → AreTokensOfAssignment ts a → AreTokensOfAssignment ts b
    → a ≡ b

one_of : OneAssignment → (t : Result (List TokenAtColumn) CalcFault) (a b : Assignment) → IsOkAnd t (λ ts. AreTokensOfAssignment ts a) → IsOkAnd t (λ ts. AreTokensOfAssignment ts b) → a ≡ b
one_of one (Ok ts) a b h o = one ts a b h o
one_of one (Err fault) a b h o = absurd h

not_both : (t : Result (List TokenAtColumn) CalcFault) (end : ℕ) (a : Assignment) (fault : CalcFault) → IsOkAnd t (λ ts. AreTokensOfAssignment ts a) → MatchResult t (λ ts. IsGrammarFault end ts fault) (λ first. fault ≡ first) → ⊥
not_both (Ok ts) end a fault h (first, none) = none a h
not_both (Err first) end a fault h o = h

-- an r.mapcalc without an error has only one reading
pub one_mapcalc : OneAssignment → (known : List (List ℕ)) (line : List ℕ) (head : ScriptLineMeaning) (other : Result ScriptLineMeaning ScriptKind) → IsMapcalcLineMeaning known line (Ok head) → IsMapcalcLineMeaning known line other → other ≡ Ok head
one_mapcalc one known line head other (inr (fault, is, memory, e)) o = cc
one_mapcalc one known line head other (inl (a, is, e)) (inl (b, is', e')) =
    let same : a ≡ b = one_of one (token_list_of_text (assignment_with_blanked_command line)) a b is is' in
    sym e' ∙ ap (mapcalc_command known) (sym same) ∙ e
one_mapcalc one known line head other (inl (a, is, e)) (inr (fault, inl memory, some, e')) = absurd (some (ap (λ (f : CalcFault). f.kind) memory))
one_mapcalc one known line head other (inl (a, is, e)) (inr (fault, inr reported, some, e')) = absurd (not_both (token_list_of_text (assignment_with_blanked_command line)) _ a fault is reported)
