-- Operators, and how tightly they bind (r.mapcalc manual, "Operators and order of precedence").
use Rattle.std.specs.Prelude.{ℕ, Option, Some, None}
use Rattle.cell_calc_grammar.specs.declared.operator.Operator.{Operator}
use Rattle.cell_calc_grammar.specs.declared.operator.Operator.TheVariants as operator
use Rattle.cell_calc_grammar.specs.declared.token.Sign.TheVariants as sign
use Rattle.cell_calc_grammar.specs.declared.token.Token.{Token}
use Rattle.cell_calc_grammar.specs.declared.token.Token.TheVariants as token

-- the operator that the token stands for between two operands
abbrev pub operator_of_token : Token → Option Operator
operator_of_token (token.Sign sign.Star) = Some operator.Times
operator_of_token (token.Sign sign.Slash) = Some operator.Divide
operator_of_token (token.Sign sign.Percent) = Some operator.Modulo
operator_of_token (token.Sign sign.Plus) = Some operator.Plus
operator_of_token (token.Sign sign.Minus) = Some operator.Minus
operator_of_token (token.Sign sign.Less) = Some operator.Less
operator_of_token (token.Sign sign.LessEqual) = Some operator.LessEqual
operator_of_token (token.Sign sign.Greater) = Some operator.Greater
operator_of_token (token.Sign sign.GreaterEqual) = Some operator.GreaterEqual
operator_of_token (token.Sign sign.Equal) = Some operator.Equal
operator_of_token (token.Sign sign.NotEqual) = Some operator.NotEqual
operator_of_token (token.Sign sign.And) = Some operator.And
operator_of_token (token.Sign sign.Or) = Some operator.Or
operator_of_token (token.Sign sign.KnownAnd) = Some operator.KnownAnd
operator_of_token (token.Sign sign.KnownOr) = Some operator.KnownOr
operator_of_token _ = None

-- the level of an operator's right operand, which is one below the operator's own level; operators of level 0 bind most
-- tightly
abbrev pub right_operand_level : Operator → ℕ
right_operand_level operator.Times = 0
right_operand_level operator.Divide = 0
right_operand_level operator.Modulo = 0
right_operand_level operator.Plus = 1
right_operand_level operator.Minus = 1
right_operand_level operator.Less = 2
right_operand_level operator.LessEqual = 2
right_operand_level operator.Greater = 2
right_operand_level operator.GreaterEqual = 2
right_operand_level operator.Equal = 3
right_operand_level operator.NotEqual = 3
right_operand_level operator.And = 4
right_operand_level operator.KnownAnd = 4
right_operand_level operator.Or = 5
right_operand_level operator.KnownOr = 5

-- the highest level below choices
abbrev pub top_operator_level : ℕ
top_operator_level = 6
