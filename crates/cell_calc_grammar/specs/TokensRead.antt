-- Reading from the left with one token of look-ahead, as the parser does. Laws prove that this agrees with the grammar.
use Rattle.std.specs.Prelude.{◌≡◌, ℕ, ℤ, pos, List, [], ◌∷◌, Option, Some, None, Result, Ok, Err, Bool, cond, nat_lt, nat_le, if◌then◌else◌}
use Rattle.std.proofs.Common.{neg_ℤ}
use Rattle.cell_calc_grammar.specs.declared.calc_fault.CalcKind.{CalcKind}
use Rattle.cell_calc_grammar.specs.declared.calc_fault.CalcKind.TheVariants.{Expected, UnknownFunction, Arguments as BadArguments, BadOffset}
use Rattle.cell_calc_grammar.specs.declared.function.Function.{Function}
use Rattle.cell_calc_grammar.specs.declared.function.Function.TheVariants.{If}
use Rattle.cell_calc_grammar.specs.declared.operator.Operator.{Operator}
use Rattle.cell_calc_grammar.specs.declared.token.TokenAtColumn.{TokenAtColumn}
use Rattle.cell_calc_grammar.specs.declared.token.Sign.{Sign}
use Rattle.cell_calc_grammar.specs.declared.token.Sign.TheVariants.{Plus, Minus, Exclamation, Question, Colon, OpenParenthesis, CloseParenthesis, OpenBracket, CloseBracket, Comma}
use Rattle.cell_calc_grammar.specs.declared.token.Token.{Token}
use Rattle.cell_calc_grammar.specs.declared.token.Token.TheVariants as token
use Rattle.cell_calc_grammar.specs.Function.{function_with_name, accepts_argument_count}
use Rattle.cell_calc_grammar.specs.Operator.{operator_of_token, right_operand_level, top_operator_level}
use Rattle.cell_calc_grammar.specs.Term.{Term, Number, Map, Negated, Not, Binary, Call, ArgumentTerms, NoTrees, Then, argument_count, map_name_at_column}
use Rattle.cell_calc_grammar.specs.Token.{number_token_at_column, name_token_at_column, sign_token_at_column}
use Rattle.cell_calc_grammar.specs.Token.{head_token}

-- all tokens except the first
abbrev pub tokens_after_first : List TokenAtColumn → List TokenAtColumn
tokens_after_first [] = []
tokens_after_first (s ∷ ts) = ts

-- the value read from the first tokens, and the remaining tokens; or an error, and the tokens that start at it
abbrev pub ExpressionPartReading : Type 0 → Type 0
ExpressionPartReading A = Result (A × List TokenAtColumn) (CalcKind × List TokenAtColumn)

-- reads one part, then the next
abbrev pub read_part_then_next : {A B : Type 0} → ExpressionPartReading A
    → (A → List TokenAtColumn → ExpressionPartReading B)
    → ExpressionPartReading B
read_part_then_next (Ok x) f = f x.0 x.1
read_part_then_next (Err e) f = Err e

-- a distance, given the first token
abbrev pub distance_reading_of_first_token : Option Token → List TokenAtColumn → ExpressionPartReading ℕ
distance_reading_of_first_token (Some (token.Number n)) ts = if nat_le n 255 then Ok
    (n, tokens_after_first ts) else Err (BadOffset, ts)
distance_reading_of_first_token _ ts = Err (Expected, ts)

-- a distance: a number of cells, at most 255
abbrev pub distance_reading : List TokenAtColumn → ExpressionPartReading ℕ
distance_reading ts = distance_reading_of_first_token (head_token ts) ts

-- a distance, converted to an offset
abbrev pub offset_reading_of_distance : (ℕ → ℤ) → ExpressionPartReading ℕ → ExpressionPartReading ℤ
offset_reading_of_distance f (Ok x) = Ok (f x.0, x.1)
offset_reading_of_distance f (Err e) = Err e

-- an offset, given the first token
abbrev pub offset_reading_of_first_token : Option Token → List TokenAtColumn → ExpressionPartReading ℤ
offset_reading_of_first_token (Some (token.Sign Minus)) ts = offset_reading_of_distance (λ n. neg_ℤ (pos n))
    (distance_reading (tokens_after_first ts))
offset_reading_of_first_token (Some (token.Sign Plus)) ts = offset_reading_of_distance pos
    (distance_reading (tokens_after_first ts))
offset_reading_of_first_token _ ts = offset_reading_of_distance pos (distance_reading ts)

-- an offset
abbrev pub offset_reading : List TokenAtColumn → ExpressionPartReading ℤ
offset_reading ts = offset_reading_of_first_token (head_token ts) ts

-- the comma between offsets, given the first token
abbrev pub comma_reading_of_first_token : Option Token → List TokenAtColumn → ExpressionPartReading (Unit {0})
comma_reading_of_first_token (Some (token.Sign Comma)) ts = Ok (tt, tokens_after_first ts)
comma_reading_of_first_token _ ts = Err (Expected, ts)

-- the closing bracket, given the first token
abbrev pub closing_bracket_reading_of_token : Option Token → List TokenAtColumn → ExpressionPartReading (Unit {0})
closing_bracket_reading_of_token (Some (token.Sign CloseBracket)) ts = Ok (tt, tokens_after_first ts)
closing_bracket_reading_of_token _ ts = Err (Expected, ts)

-- the second offset, followed by the closing bracket
abbrev pub second_offset_and_bracket_reading : ℤ → List TokenAtColumn → ExpressionPartReading (ℤ × ℤ)
second_offset_and_bracket_reading down ts = read_part_then_next (offset_reading ts) (λ right us. read_part_then_next (closing_bracket_reading_of_token (head_token us) us) (λ _ vs. Ok ((down, right), vs)))

-- both offsets, followed by the closing bracket
abbrev pub read_both_offsets : List TokenAtColumn → ExpressionPartReading (ℤ × ℤ)
read_both_offsets ts = read_part_then_next (offset_reading ts) (λ down us. read_part_then_next
    (comma_reading_of_first_token (head_token us) us)
    (λ _ vs. second_offset_and_bracket_reading down vs))

-- an expression or arguments, and the remaining tokens; or an error, and the tokens that start at it
pub data ExpressionReadOutcome : Type 0 where
  Got : (a : Term) (rest : List TokenAtColumn) → ExpressionReadOutcome
  GotAll : (xs : ArgumentTerms) (rest : List TokenAtColumn) → ExpressionReadOutcome
  Stops : (kind : CalcKind) (rest : List TokenAtColumn) → ExpressionReadOutcome

-- a part to be read, or the continuation after a part that was read
pub data ParserState : Type 0 where
  Operand : (ts : List TokenAtColumn) → ParserState
  Whole : (k : ℕ) (ts : List TokenAtColumn) → ParserState
  More : (k : ℕ) (sofar : ExpressionReadOutcome) → ParserState
  Expression : (ts : List TokenAtColumn) → ParserState
  Choice : (sofar : ExpressionReadOutcome) → ParserState
  AfterQuestion : (x : Term) (sofar : ExpressionReadOutcome) → ParserState
  Called : (ts : List TokenAtColumn) → ParserState
  Arguments : (ts : List TokenAtColumn) → ParserState
  Onward : (argument : ExpressionReadOutcome) → ParserState

-- the operator, if its level is below k
abbrev pub operator_below_level : ℕ → Option Operator → Option Operator
operator_below_level k None = None
operator_below_level k (Some op) = if nat_lt (right_operand_level op) k then Some op else None

-- the operator that a token stands for, if it continues an expression of level k
abbrev pub continuing_operator : ℕ → Option Token → Option Operator
continuing_operator k None = None
continuing_operator k (Some s) = operator_below_level k (operator_of_token s)

-- the first token as an operator, if it continues an expression of level k
abbrev pub first_continuing_operator : ℕ → List TokenAtColumn → Option Operator
first_continuing_operator k ts = continuing_operator k (head_token ts)

-- the first token is an operator that continues an expression of level k, and `rest` follows it
abbrev pub ContinuesWithOperator : ℕ → List TokenAtColumn → Operator → List TokenAtColumn → Type 0
ContinuesWithOperator k ts op rest = (tokens_after_first ts ≡ rest) × (first_continuing_operator k ts ≡ Some op)

-- the token is not this sign
abbrev pub TokenIsNotSign : Sign → Option Token → Type 0
TokenIsNotSign sign t = t ≡ Some (token.Sign sign) → ⊥

-- the token after a name shows that the name is a map without offsets
abbrev pub TokenShowsMapWithoutOffsets : Option Token → Type 0
TokenShowsMapWithoutOffsets t = TokenIsNotSign OpenParenthesis t × TokenIsNotSign OpenBracket t

-- the token does not begin an operand
abbrev pub TokenBeginsNoOperand : Option Token → Type 0
TokenBeginsNoOperand (Some (token.Number n)) = ⊥
TokenBeginsNoOperand (Some (token.Name n)) = ⊥
TokenBeginsNoOperand (Some (token.Sign Minus)) = ⊥
TokenBeginsNoOperand (Some (token.Sign Exclamation)) = ⊥
TokenBeginsNoOperand (Some (token.Sign OpenParenthesis)) = ⊥
TokenBeginsNoOperand _ = Unit {0}

-- the outcome after a unary minus
abbrev pub outcome_after_minus : ExpressionReadOutcome → ExpressionReadOutcome
outcome_after_minus (Got a rest) = Got (Negated a) rest
outcome_after_minus (GotAll xs rest) = Stops Expected rest
outcome_after_minus (Stops kind rest) = Stops kind rest

-- the outcome after a unary `!`
abbrev pub outcome_after_not_sign : ExpressionReadOutcome → ExpressionReadOutcome
outcome_after_not_sign (Got a rest) = Got (Not a) rest
outcome_after_not_sign (GotAll xs rest) = Stops Expected rest
outcome_after_not_sign (Stops kind rest) = Stops kind rest

-- the outcome of an expression in parentheses, given the token that follows it
abbrev pub outcome_after_parenthesis : Option Token → Term → List TokenAtColumn → ExpressionReadOutcome
outcome_after_parenthesis (Some (token.Sign CloseParenthesis)) a rest = Got a (tokens_after_first rest)
outcome_after_parenthesis _ a rest = Stops Expected rest

-- the outcome of an expression in parentheses
abbrev pub outcome_in_parentheses : ExpressionReadOutcome → ExpressionReadOutcome
outcome_in_parentheses (Got a rest) = outcome_after_parenthesis (head_token rest) a rest
outcome_in_parentheses (GotAll xs rest) = Stops Expected rest
outcome_in_parentheses (Stops kind rest) = Stops kind rest

-- the outcome after an operator and its left operand
abbrev pub outcome_after_operator : Operator → Term → ExpressionReadOutcome → ExpressionReadOutcome
outcome_after_operator op a (Got b rest) = Got (Binary op a b) rest
outcome_after_operator op a (GotAll xs rest) = Stops Expected rest
outcome_after_operator op a (Stops kind rest) = Stops kind rest

-- the outcome after a condition, the choice if it is true, and the colon
abbrev pub outcome_after_choice : Term → Term → ExpressionReadOutcome → ExpressionReadOutcome
outcome_after_choice x a (Got b rest) = Got (Call If (Then x (Then a (Then b NoTrees)))) rest
outcome_after_choice x a (GotAll xs rest) = Stops Expected rest
outcome_after_choice x a (Stops kind rest) = Stops kind rest

-- the outcome of a map name followed by offsets
abbrev pub outcome_after_offsets : List ℕ → ℕ → ExpressionPartReading (ℤ × ℤ) → ExpressionReadOutcome
outcome_after_offsets name c (Ok x) = Got (Map (map_name_at_column name c) x.0.0 x.0.1) x.1
outcome_after_offsets name c (Err e) = Stops e.0 e.1

-- the outcome of a call: an error at its start if its function does not accept the number of arguments
abbrev pub outcome_of_checked_call : Bool → Function → ArgumentTerms → (from rest : List TokenAtColumn)
    → ExpressionReadOutcome
outcome_of_checked_call b f xs from rest = cond b (Got (Call f xs) rest) (Stops BadArguments from)

-- the outcome after a function's name and the opening parenthesis, where the tokens `from` start with the name
abbrev pub call : Function → List TokenAtColumn → ExpressionReadOutcome → ExpressionReadOutcome
call f from (Got a rest) = Stops Expected rest
call f from (GotAll xs rest) = outcome_of_checked_call (accepts_argument_count f (argument_count xs)) f xs from rest
call f from (Stops kind rest) = Stops kind rest

-- the outcome after an argument and a comma
abbrev pub outcome_with_argument : Term → ExpressionReadOutcome → ExpressionReadOutcome
outcome_with_argument a (Got b rest) = Stops Expected rest
outcome_with_argument a (GotAll xs rest) = GotAll (Then a xs) rest
outcome_with_argument a (Stops kind rest) = Stops kind rest

-- how each state is read, with one rule for each step
pub data ParserStateReadsAs : ParserState → ExpressionReadOutcome → Type 0 where
  number : {n c : ℕ} {ts : List TokenAtColumn} → ParserStateReadsAs (Operand (number_token_at_column n c ∷ ts))
      (Got (Number n) ts)
  map : {name : List ℕ} {c : ℕ} {ts : List TokenAtColumn} → TokenShowsMapWithoutOffsets (head_token ts) → ParserStateReadsAs (Operand (name_token_at_column name c ∷ ts)) (Got (Map (map_name_at_column name c) (pos 0) (pos 0)) ts)
  moved : {name : List ℕ} {c d : ℕ} {ts : List TokenAtColumn} → ParserStateReadsAs (Operand (name_token_at_column name c ∷ sign_token_at_column OpenBracket d ∷ ts)) (outcome_after_offsets name c (read_both_offsets ts))
  unknown : {name : List ℕ} {c d : ℕ} {ts : List TokenAtColumn} → function_with_name name ≡ None
      → ParserStateReadsAs (Operand (name_token_at_column name c ∷ sign_token_at_column OpenParenthesis d ∷ ts)) (Stops UnknownFunction (name_token_at_column name c ∷ sign_token_at_column OpenParenthesis d ∷ ts))
  called : {name : List ℕ} {c d : ℕ} {ts : List TokenAtColumn} {o : ExpressionReadOutcome} (f : Function) → function_with_name name ≡ Some f → ParserStateReadsAs (Called ts) o
      → ParserStateReadsAs (Operand (name_token_at_column name c ∷ sign_token_at_column OpenParenthesis d ∷ ts)) (call f (name_token_at_column name c ∷ sign_token_at_column OpenParenthesis d ∷ ts) o)
  negated : {c : ℕ} {ts : List TokenAtColumn} {o : ExpressionReadOutcome} → ParserStateReadsAs (Operand ts) o → ParserStateReadsAs (Operand (sign_token_at_column Minus c ∷ ts)) (outcome_after_minus o)
  not : {c : ℕ} {ts : List TokenAtColumn} {o : ExpressionReadOutcome} → ParserStateReadsAs (Operand ts) o → ParserStateReadsAs (Operand (sign_token_at_column Exclamation c ∷ ts)) (outcome_after_not_sign o)
  inside : {c : ℕ} {ts : List TokenAtColumn} {o : ExpressionReadOutcome} → ParserStateReadsAs (Expression ts) o → ParserStateReadsAs (Operand (sign_token_at_column OpenParenthesis c ∷ ts)) (outcome_in_parentheses o)
  nothing : {ts : List TokenAtColumn} → TokenBeginsNoOperand (head_token ts)
      → ParserStateReadsAs (Operand ts) (Stops Expected ts)
  whole : {k : ℕ} {ts : List TokenAtColumn} {o p : ExpressionReadOutcome} → ParserStateReadsAs (Operand ts) o → ParserStateReadsAs (More k o) p → ParserStateReadsAs (Whole k ts) p
  stopped : {k : ℕ} {kind : CalcKind} {ts : List TokenAtColumn}
      → ParserStateReadsAs (More k (Stops kind ts)) (Stops kind ts)
  done : {k : ℕ} {ts : List TokenAtColumn} {a : Term} → first_continuing_operator k ts ≡ None
      → ParserStateReadsAs (More k (Got a ts)) (Got a ts)
  more : {k : ℕ} {s : TokenAtColumn} {ts : List TokenAtColumn} {a : Term} {o p : ExpressionReadOutcome} (op : Operator) → first_continuing_operator k (s ∷ ts) ≡ Some op
      → ParserStateReadsAs (Whole (right_operand_level op) ts) o → ParserStateReadsAs (More k (outcome_after_operator op a o)) p → ParserStateReadsAs (More k (Got a (s ∷ ts))) p
  expression : {ts : List TokenAtColumn} {o p : ExpressionReadOutcome} → ParserStateReadsAs (Whole top_operator_level ts) o → ParserStateReadsAs (Choice o) p → ParserStateReadsAs (Expression ts) p
  unread : {kind : CalcKind} {ts : List TokenAtColumn} → ParserStateReadsAs (Choice (Stops kind ts)) (Stops kind ts)
  unchosen : {a : Term} {ts : List TokenAtColumn} → TokenIsNotSign Question (head_token ts)
      → ParserStateReadsAs (Choice (Got a ts)) (Got a ts)
  asked : {c : ℕ} {x : Term} {ts : List TokenAtColumn} {o p : ExpressionReadOutcome} → ParserStateReadsAs (Expression ts) o → ParserStateReadsAs (AfterQuestion x o) p
      → ParserStateReadsAs (Choice (Got x (sign_token_at_column Question c ∷ ts))) p
  unasked : {x : Term} {kind : CalcKind} {ts : List TokenAtColumn} → ParserStateReadsAs (AfterQuestion x (Stops kind ts)) (Stops kind ts)
  no_colon : {x a : Term} {ts : List TokenAtColumn} → TokenIsNotSign Colon (head_token ts) → ParserStateReadsAs (AfterQuestion x (Got a ts)) (Stops Expected ts)
  otherwise : {c : ℕ} {x a : Term} {ts : List TokenAtColumn} {o : ExpressionReadOutcome}
      → ParserStateReadsAs (Expression ts) o
      → ParserStateReadsAs (AfterQuestion x (Got a (sign_token_at_column Colon c ∷ ts))) (outcome_after_choice x a o)
  none : {c : ℕ} {ts : List TokenAtColumn} → ParserStateReadsAs (Called (sign_token_at_column CloseParenthesis c
      ∷ ts)) (GotAll NoTrees ts)
  some : {ts : List TokenAtColumn} {o : ExpressionReadOutcome} → TokenIsNotSign CloseParenthesis (head_token ts) → ParserStateReadsAs (Arguments ts) o → ParserStateReadsAs (Called ts) o
  arguments : {ts : List TokenAtColumn} {o p : ExpressionReadOutcome} → ParserStateReadsAs (Expression ts) o → ParserStateReadsAs (Onward o) p → ParserStateReadsAs (Arguments ts) p
  halted : {kind : CalcKind} {ts : List TokenAtColumn} → ParserStateReadsAs (Onward (Stops kind ts)) (Stops kind ts)
  last : {c : ℕ} {a : Term} {ts : List TokenAtColumn} → ParserStateReadsAs (Onward (Got a (sign_token_at_column CloseParenthesis c ∷ ts))) (GotAll (Then a NoTrees) ts)
  another : {c : ℕ} {a : Term} {ts : List TokenAtColumn} {o : ExpressionReadOutcome} → ParserStateReadsAs (Arguments ts) o → ParserStateReadsAs (Onward (Got a (sign_token_at_column Comma c ∷ ts))) (outcome_with_argument a o)
  unended : {a : Term} {ts : List TokenAtColumn} → TokenIsNotSign CloseParenthesis (head_token ts) → TokenIsNotSign Comma (head_token ts) → ParserStateReadsAs (Onward (Got a ts)) (Stops Expected ts)
