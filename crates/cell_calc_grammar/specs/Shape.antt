-- Tokens without the values of numbers and the spelling of names.
use Rattle.std.specs.Prelude.{List, [], map}
use Rattle.cell_calc_grammar.specs.declared.token.TokenAtColumn.{TokenAtColumn}
use Rattle.cell_calc_grammar.specs.declared.token.Token.{Token}
use Rattle.cell_calc_grammar.specs.declared.token.Token.TheVariants.{Number, Name, Sign}

-- the token without the value of a number or the spelling of a name
abbrev pub token_without_value : Token → Token
token_without_value (Number n) = Number 0
token_without_value (Name name) = Name []
token_without_value (Sign s) = Sign s

-- the shapes of the tokens, in order
abbrev pub tokens_without_values : List TokenAtColumn → List Token
tokens_without_values ts = map (λ s. token_without_value s.token) ts
