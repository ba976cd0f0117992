-- Where the parser stops.
use Rattle.std.specs.Borrow.{Bor}
use Rattle.std.specs.Prelude.{MatchResult, Ok, Result, ◌≡◌, ℕ, List, Some, Err}
use Rattle.cell_calc_grammar.specs.declared.calc_fault.CalcFault.{CalcFault}
use Rattle.cell_calc_grammar.specs.declared.calc_fault.CalcKind.TheVariants as kind
use Rattle.cell_calc_language.specs.declared.token_parsing.ParseStop.{ParseStop}
use Rattle.cell_calc_language.specs.declared.token_parsing.ParseStop.TheVariants.{Memory, At}
use Rattle.cell_calc_grammar.specs.declared.token.TokenAtColumn.{TokenAtColumn}
use Rattle.cell_calc_grammar.specs.declared.token.Sign.{Sign}
use Rattle.cell_calc_grammar.specs.declared.token.Sign.TheVariants.{OpenParenthesis}
use Rattle.cell_calc_grammar.specs.declared.token.Token.TheVariants as token
use Rattle.cell_calc_language.specs.GrammarFault.{first_token_column_or_end}
use Rattle.cell_calc_grammar.specs.TokensRead.{ParserState, Stops, ParserStateReadsAs, ExpressionPartReading}
use Rattle.cell_calc_grammar.specs.TokensRead.{tokens_after_first}
use Rattle.cell_calc_grammar.specs.Token.{head_token}

-- the parser stops at the position where reading stops, unless memory runs out
abbrev pub ParserStopsWhereReadingStops : ParserState → ParseStop → Type 0
ParserStopsWhereReadingStops s Memory = Unit {0}
ParserStopsWhereReadingStops s (At kind rest) = ParserStateReadsAs s (Stops kind rest.now)

-- reading the part stops with the error of this stop
abbrev pub PartReadingStopsWithFault : {A : Type 0} → ExpressionPartReading A → ParseStop → Type 0
PartReadingStopsWithFault p Memory = ⊥
PartReadingStopsWithFault p (At kind rest) = p ≡ Err (kind, rest.now)

-- the code returns the part as it is read, or stops where reading stops
abbrev pub ResultAgreesWithPartReading : {A : Type 0} → ExpressionPartReading A
    → Result (A × Bor (List TokenAtColumn)) ParseStop → Type 0
ResultAgreesWithPartReading p r = MatchResult r (λ x. p ≡ Ok (x.0, x.1.now)) (λ e. PartReadingStopsWithFault p e)

-- the first token is the sign, and `rest` follows it
abbrev pub RestFollowsSign : Sign → List TokenAtColumn → List TokenAtColumn → Type 0
RestFollowsSign sign ts rest = (head_token ts ≡ Some (token.Sign sign)) × (tokens_after_first ts ≡ rest)

-- the first tokens are the name and an opening parenthesis, and `rest` follows them
abbrev pub RestFollowsCallOpening : List ℕ → List TokenAtColumn → List TokenAtColumn → Type 0
RestFollowsCallOpening name ts rest = (head_token ts ≡ Some (token.Name name))
    × RestFollowsSign OpenParenthesis (tokens_after_first ts) rest

-- the error that a stop reports
abbrev pub fault_of_parser_stop : (end : ℕ) → ParseStop → CalcFault
fault_of_parser_stop end Memory = record { kind = kind.Memory; column = 0 }
fault_of_parser_stop end (At kind rest) = record { kind = kind; column = first_token_column_or_end end rest.now }
