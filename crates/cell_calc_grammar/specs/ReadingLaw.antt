-- Laws about reading expressions.
use Rattle.std.specs.Prelude.{◌≡◌, List, []}
use Rattle.cell_calc_grammar.specs.declared.token.TokenAtColumn.{TokenAtColumn}
use Rattle.cell_calc_grammar.specs.Grammar.{IsExpression}
use Rattle.cell_calc_grammar.specs.TokensRead.{Expression, Got, ExpressionReadOutcome, ParserStateReadsAs, ParserState}
use Rattle.cell_calc_grammar.specs.Term.{Term}

-- tokens are read to their end as an expression if and only if they stand for it
abbrev pub ReadingAgreesWithGrammar : Type 0
ReadingAgreesWithGrammar =
    (ts : List TokenAtColumn) (a : Term)
    → (ParserStateReadsAs (Expression ts) (Got a []) → IsExpression ts a)
    × (IsExpression ts a → ParserStateReadsAs (Expression ts) (Got a []))

-- reading a state has at most one outcome
abbrev pub ExpressionReadingHasOneOutcome : Type 0
ExpressionReadingHasOneOutcome = (s : ParserState) (o p : ExpressionReadOutcome) → ParserStateReadsAs s o
    → ParserStateReadsAs s p → o ≡ p

-- tokens stand for at most one expression
abbrev pub TokensDenoteOneExpression : Type 0
TokensDenoteOneExpression = (ts : List TokenAtColumn) (a b : Term) → IsExpression ts a → IsExpression ts b → a ≡ b
