-- Reading each list of tokens has an outcome.
use Rattle.std.proofs.Common.{◌≡◌, ℕ, zero, suc, ◌+◌, ◌*◌, ◌<◌, ◌≤◌, List, [], ◌∷◌, ◌++◌, length, Option, Some, None, refl, ap, arith, length-append}
use Rattle.cell_calc_grammar.specs.declared.function.Function.{Function}
use Rattle.cell_calc_grammar.specs.declared.operator.Operator.{Operator}
use Rattle.cell_calc_grammar.specs.declared.token.TokenAtColumn.{TokenAtColumn}
use Rattle.cell_calc_grammar.specs.declared.token.Sign.TheVariants.{Minus, Exclamation, Question, Colon, OpenParenthesis, CloseParenthesis, OpenBracket, Comma}
use Rattle.cell_calc_grammar.specs.Function.{function_with_name}
use Rattle.cell_calc_grammar.specs.Operator.{right_operand_level, top_operator_level}
use Rattle.cell_calc_grammar.specs.TokensRead as reading
use Rattle.cell_calc_grammar.specs.TokensRead.{ExpressionPartReading, tokens_after_first, ExpressionReadOutcome, Got, GotAll, Stops, ParserState, Operand, Whole, More, Expression, Choice, AfterQuestion, Called, Arguments, Onward, first_continuing_operator, TokenIsNotSign, TokenShowsMapWithoutOffsets, TokenBeginsNoOperand, outcome_after_minus, outcome_after_not_sign, outcome_after_parenthesis, outcome_in_parentheses, outcome_after_operator, outcome_after_choice, outcome_after_offsets, outcome_of_checked_call, call, outcome_with_argument, ParserStateReadsAs, nothing, whole, stopped, done, more, expression, unread, unchosen, asked, unasked, no_colon, otherwise, arguments, halted, unended}
use Rattle.cell_calc_grammar.specs.Term.{Term, ArgumentTerms}
use Rattle.cell_calc_grammar.specs.Token.{name_token_at_column, sign_token_at_column}
use Rattle.cell_calc_grammar.proofs.Occurs.{left, tokens, find}
use Rattle.cell_calc_grammar.proofs.Sound.{IsSound, sound, Looks, ANumber, AName, ASign, look}

-- the outcome is an expression or a stop
abbrev IsTerm : ExpressionReadOutcome → Type 0
IsTerm (GotAll xs rest) = ⊥
IsTerm _ = Unit {0}

-- a state that continues an outcome continues an expression or a stop
abbrev Starts : ParserState → Type 0
Starts (More k o) = IsTerm o
Starts (Choice o) = IsTerm o
Starts (AfterQuestion x o) = IsTerm o
Starts (Onward o) = IsTerm o
Starts _ = Unit {0}

abbrev Total : ParserState → Type 0
Total s = (o : ExpressionReadOutcome) × ParserStateReadsAs s o

-- the order of states that have the same tokens
abbrev rank : ParserState → ℕ
rank (Whole k ts) = 1
rank (Expression ts) = 2
rank (Arguments ts) = 3
rank (Called ts) = 4
rank _ = 0

abbrev cell_absolute_value : ParserState → ℕ
cell_absolute_value s = 4 * length (tokens s) + rank s

-- each state smaller than n is read
abbrev Totals : ℕ → Type 0
Totals n = (s : ParserState) → Starts s → cell_absolute_value s < n → Total s

is_term : {s : ParserState} {o : ExpressionReadOutcome} → ((xs : ArgumentTerms) (rest : List TokenAtColumn)
    → IsSound s (GotAll xs rest) → ⊥)
    → ParserStateReadsAs s o → IsTerm o
is_term {o = Got a rest} n r = tt
is_term {o = GotAll xs rest} n r = n xs rest (sound r)
is_term {o = Stops kind rest} n r = tt

joined_term : (op : Operator) (a : Term) (o : ExpressionReadOutcome) → IsTerm o
    → IsTerm (outcome_after_operator op a o) × (left (outcome_after_operator op a o) ≡ left o)
joined_term op a (Got b rest) i = (tt, refl)
joined_term op a (GotAll xs rest) i = absurd i
joined_term op a (Stops kind rest) i = (tt, refl)

-- reading leaves no more tokens than there were
not_longer : {s : ParserState} {o : ExpressionReadOutcome} → ParserStateReadsAs s o
    → length (left o) ≤ length (tokens s)
not_longer {s = s} {o = o} r =
    let w = find r in
    let all : length (tokens s) ≡ length (w.before ++ left o) = ap length w.all in
    grind (arith, length-append)

module _ (n : ℕ) (t : Totals n) where
  called_at : (name : List ℕ) (c d : ℕ) (us : List TokenAtColumn) → 4 * length us + 4 < n → (x : Option Function)
      → function_with_name name ≡ x
      → Total (Operand (name_token_at_column name c ∷ sign_token_at_column OpenParenthesis d ∷ us))
  called_at name c d us h None e = (_, reading.unknown e)
  called_at name c d us h (Some f) e = let x = t (Called us) tt h in (_, reading.called f e x.1)

  named_at : (name : List ℕ) (c : ℕ) {us : List TokenAtColumn} → Looks us → 4 * length us < n → Total (Operand (name_token_at_column name c ∷ us))
  named_at name c (ASign OpenParenthesis d us) h = called_at name c d us (omega arith) (function_with_name name) refl
  named_at name c (ASign OpenBracket d us) h = (_, reading.moved)
  named_at name c _ h = (_, reading.map (λ k. cc, λ k. cc))

  operand_at : {ts : List TokenAtColumn} → Looks ts → 4 * length ts < suc n → Total (Operand ts)
  operand_at (ANumber m c us) h = (_, reading.number)
  operand_at (AName name c us) h = named_at name c (look us) (omega arith)
  operand_at (ASign Minus c us) h = let x = t (Operand us) tt (omega arith) in (_, reading.negated x.1)
  operand_at (ASign Exclamation c us) h = let x = t (Operand us) tt (omega arith) in (_, reading.not x.1)
  operand_at (ASign OpenParenthesis c us) h = let x = t (Expression us) tt (omega arith) in (_, reading.inside x.1)
  operand_at _ h = (_, nothing tt)

  more_at : (k : ℕ) (a : Term) (s : TokenAtColumn) (us : List TokenAtColumn) → 4 * suc (length us) < suc n
      → (x : Option Operator)
      → first_continuing_operator k (s ∷ us) ≡ x
      → Total (More k (Got a (s ∷ us)))
  more_at k a s us h None e = (_, done e)
  more_at k a s us h (Some op) e =
      let x = t (Whole (right_operand_level op) us) tt (omega arith) in
      let j = joined_term op a x.0 (is_term (λ xs l z. z) x.1) in
      let less = not_longer x.1 in
      let same : length (left (outcome_after_operator op a x.0)) ≡ length (left x.0) = ap length j.1 in
      let y = t (More k (outcome_after_operator op a x.0)) j.0 (omega arith) in
      (_, more op e x.1 y.1)

  choice_at : (a : Term) {ts : List TokenAtColumn} → Looks ts → 4 * length ts < suc n → Total (Choice (Got a ts))
  choice_at a (ASign Question c us) h =
      let x = t (Expression us) tt (omega arith) in
      let less = not_longer x.1 in
      let y = t (AfterQuestion a x.0) (is_term (λ xs l z. z) x.1) (omega arith) in
      (_, asked x.1 y.1)
  choice_at a _ h = (_, unchosen (λ k. cc))

  colon_at : (x a : Term) {ts : List TokenAtColumn} → Looks ts → 4 * length ts < suc n
      → Total (AfterQuestion x (Got a ts))
  colon_at x a (ASign Colon c us) h = let y = t (Expression us) tt (omega arith) in (_, otherwise y.1)
  colon_at x a _ h = (_, no_colon (λ k. cc))

  onward_at : (a : Term) {ts : List TokenAtColumn} → Looks ts → 4 * length ts < suc n → Total (Onward (Got a ts))
  onward_at a (ASign CloseParenthesis c us) h = (_, reading.last)
  onward_at a (ASign Comma c us) h = let x = t (Arguments us) tt (omega arith) in (_, reading.another x.1)
  onward_at a _ h = (_, unended (λ k. cc) (λ k. cc))

  called_total : {ts : List TokenAtColumn} → Looks ts → Total (Arguments ts) → Total (Called ts)
  called_total (ASign CloseParenthesis c us) x = (_, reading.none)
  called_total _ x = (_, reading.some (λ k. cc) x.1)

totals : (n : ℕ) → Totals n
totals zero s i h = absurd (let x : ⊥ = omega arith in x)
totals (suc n) (Operand ts) i h = operand_at n (totals n) (look ts) (omega arith)
totals (suc n) (Whole k ts) i h =
    let x = totals n (Operand ts) tt (omega arith) in
    let less = not_longer x.1 in
    let y = totals n (More k x.0) (is_term (λ xs l z. z) x.1) (omega arith) in
    (_, whole x.1 y.1)
totals (suc n) (More k (Got a [])) i h = (_, done refl)
totals (suc n) (More k (Got a (s ∷ us))) i h = more_at n (totals n) k a s us (omega arith)
    (first_continuing_operator k (s ∷ us)) refl
totals (suc n) (More k (Stops kind us)) i h = (_, stopped)
totals (suc n) (Expression ts) i h =
    let x = totals n (Whole top_operator_level ts) tt (omega arith) in
    let less = not_longer x.1 in
    let y = totals n (Choice x.0) (is_term (λ xs l z. z) x.1) (omega arith) in
    (_, expression x.1 y.1)
totals (suc n) (Choice (Got a ts)) i h = choice_at n (totals n) a (look ts) (omega arith)
totals (suc n) (Choice (Stops kind us)) i h = (_, unread)
totals (suc n) (AfterQuestion x (Got a ts)) i h = colon_at n (totals n) x a (look ts) (omega arith)
totals (suc n) (AfterQuestion x (Stops kind us)) i h = (_, unasked)
totals (suc n) (Called ts) i h = called_total n (totals n) (look ts) (totals n (Arguments ts) tt (omega arith))
totals (suc n) (Arguments ts) i h =
    let x = totals n (Expression ts) tt (omega arith) in
    let less = not_longer x.1 in
    let y = totals n (Onward x.0) (is_term (λ xs l z. z) x.1) (omega arith) in
    (_, arguments x.1 y.1)
totals (suc n) (Onward (Got a ts)) i h = onward_at n (totals n) a (look ts) (omega arith)
totals (suc n) (Onward (Stops kind us)) i h = (_, halted)
totals (suc n) _ i h = absurd i

-- each list of tokens is read with some outcome
pub read_somehow : (ts : List TokenAtColumn) → (o : ExpressionReadOutcome) × ParserStateReadsAs (Expression ts) o
read_somehow ts = totals (suc (cell_absolute_value (Expression ts))) (Expression ts) tt (omega arith)
