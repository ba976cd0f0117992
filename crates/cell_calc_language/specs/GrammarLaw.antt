-- Laws about errors in the grammar.
use Rattle.std.specs.Prelude.{◌≡◌, ℕ, List, ◌⊎◌}
use Rattle.cell_calc_language.specs.declared.assignment.Assignment.{Assignment}
use Rattle.cell_calc_grammar.specs.declared.calc_fault.CalcFault.{CalcFault}
use Rattle.cell_calc_grammar.specs.declared.token.TokenAtColumn.{TokenAtColumn}
use Rattle.cell_calc_language.specs.Assignment.{AreTokensOfAssignment}
use Rattle.cell_calc_language.specs.GrammarFault.{IsGrammarFault}

-- a list of tokens has at most one error in the grammar
abbrev pub AtMostOneGrammarFault : Type 0
AtMostOneGrammarFault =
    (end : ℕ) (ts : List TokenAtColumn) (f g : CalcFault)
    → IsGrammarFault end ts f → IsGrammarFault end ts g → f ≡ g

-- each list of tokens stands for an assignment or has an error in the grammar
abbrev pub TokensAreAssignmentOrFault : Type 0
TokensAreAssignmentOrFault =
    (end : ℕ) (ts : List TokenAtColumn)
    → ((a : Assignment) × AreTokensOfAssignment ts a) ⊎ ((fault : CalcFault) × IsGrammarFault end ts fault)
