-- Tokens at their columns (profile: columns count bytes from 1).
use Rattle.std.specs.Prelude.{◌≤◌, ℕ, List, [], ◌∷◌, Option, Some, None}
use Rattle.cell_calc_grammar.specs.declared.token.TokenAtColumn.{TokenAtColumn}
use Rattle.cell_calc_grammar.specs.declared.token.Sign.{Sign}
use Rattle.cell_calc_grammar.specs.declared.token.Token.{Token}
use Rattle.cell_calc_grammar.specs.declared.token.Token.TheVariants as token

-- a number at a column
abbrev pub number_token_at_column : (number column : ℕ) → TokenAtColumn
number_token_at_column n c = record { token = token.Number n; column = c }

-- a name at a column
abbrev pub name_token_at_column : (name : List ℕ) (column : ℕ) → TokenAtColumn
name_token_at_column n c = record { token = token.Name n; column = c }

-- a sign at a column
abbrev pub sign_token_at_column : (sign : Sign) (column : ℕ) → TokenAtColumn
sign_token_at_column s c = record { token = token.Sign s; column = c }

-- the first token
abbrev pub head_token : List TokenAtColumn → Option Token
head_token [] = None
head_token (s ∷ ts) = Some s.token

-- a number token is a category
abbrev pub NumberTokenIsCategory : Token → Type 0
NumberTokenIsCategory (token.Number n) = n ≤ 2147483647
NumberTokenIsCategory _ = Unit {0}

-- all number tokens are categories
abbrev pub NumberTokensAreCategories : List TokenAtColumn → Type 0
NumberTokensAreCategories [] = Unit {0}
NumberTokensAreCategories (s ∷ ts) = NumberTokenIsCategory s.token × NumberTokensAreCategories ts
