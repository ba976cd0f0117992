-- The lists of tokens that stand for assignments (r.mapcalc manual).
use Rattle.std.specs.Prelude.{◌≡◌, ℕ, List, ◌∷◌, IsOkAnd}
use Rattle.cell_calc_language.specs.declared.assignment.Assignment.{Assignment}
use Rattle.cell_calc_grammar.specs.declared.token.TokenAtColumn.{TokenAtColumn}
use Rattle.cell_calc_grammar.specs.declared.token.Sign.TheVariants.{Assign}
use Rattle.cell_calc_grammar.specs.Grammar.{IsExpression}
use Rattle.cell_calc_grammar.specs.Token.{name_token_at_column, sign_token_at_column}
use Rattle.cell_calc_grammar.specs.Tokens.{token_list_of_text}

-- assignment = NAME "=" expr
abbrev pub AreTokensOfAssignment : List TokenAtColumn → Assignment → Type 0
AreTokensOfAssignment ts a = (c d : ℕ) × (us : List TokenAtColumn) × (ts ≡ name_token_at_column a.target c ∷ sign_token_at_column Assign d ∷ us) × IsExpression us a.expr

-- the tokens of the text stand for the assignment
abbrev pub IsAssignmentText : List ℕ → Assignment → Type 0
IsAssignmentText text a = IsOkAnd (token_list_of_text text) (λ ts. AreTokensOfAssignment ts a)
