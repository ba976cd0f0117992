-- Tokens that stand for an expression are read as that expression, and reading has one outcome.
use Rattle.std.proofs.Common.{◌≡◌, ℕ, zero, suc, ◌≤◌, ℤ, List, [], ◌∷◌, ◌++◌, Option, Some, None, Ok, true, refl, sym, ap, ◌∙◌, subst, arith, append_assoc, append-nil}
use Rattle.std.specs.Prelude.{nat_le}
use Rattle.std.proofs.lemmas.Bool.Decides.{nat_tests}
use Rattle.cell_calc_grammar.specs.declared.operator.Operator.{Operator}
use Rattle.cell_calc_grammar.specs.declared.token.TokenAtColumn.{TokenAtColumn}
use Rattle.cell_calc_grammar.specs.declared.token.Sign.TheVariants.{Question, Colon, OpenParenthesis, CloseParenthesis, OpenBracket, CloseBracket, Comma}
use Rattle.cell_calc_grammar.specs.declared.token.Token.TheVariants as token
use Rattle.cell_calc_grammar.specs.Function.{function_with_name}
use Rattle.cell_calc_grammar.specs.Grammar as grammar
use Rattle.cell_calc_grammar.specs.Grammar.{TokensDenoteOffset, TokensDenoteRowAndColumnOffsets, Stands, IsExpression, AreCalled, AreArguments, below, joined, choice}
use Rattle.cell_calc_grammar.specs.Operator.{operator_of_token, right_operand_level, top_operator_level}
use Rattle.cell_calc_grammar.specs.TokensRead as reading
use Rattle.cell_calc_grammar.specs.TokensRead.{ExpressionPartReading, read_part_then_next, offset_reading, second_offset_and_bracket_reading, ExpressionReadOutcome, Got, GotAll, Stops, ParserState, Operand, Whole, More, Expression, Choice, AfterQuestion, Called, Arguments, Onward, operator_below_level, first_continuing_operator, TokenIsNotSign, TokenShowsMapWithoutOffsets, TokenBeginsNoOperand, outcome_after_minus, outcome_after_not_sign, outcome_in_parentheses, outcome_after_operator, outcome_after_choice, outcome_after_offsets, outcome_of_checked_call, call, outcome_with_argument, ParserStateReadsAs, nothing, whole, stopped, done, more, expression, unread, unchosen, asked, unasked, no_colon, otherwise, arguments, halted, unended}
use Rattle.cell_calc_grammar.specs.Term.{Term, Number, ArgumentTerms}
use Rattle.cell_calc_grammar.specs.Token.{name_token_at_column, sign_token_at_column, head_token}
use Rattle.cell_calc_grammar.proofs.Walk.{operator_alone}

-- if an option is both Some a and Some b, a equals b
same_some : {A : Type 0} (x : Option A) (a b : A) → x ≡ Some a → x ≡ Some b → a ≡ b
same_some x a b e e' = cc

no_some : {A B : Type 0} (x : Option A) (a : A) → x ≡ None → x ≡ Some a → B
no_some x a e e' = let h : ⊥ = cc in absurd h

-- reading a state has only one outcome
pub one_outcome : {s : ParserState} {o p : ExpressionReadOutcome} → ParserStateReadsAs s o → ParserStateReadsAs s p
    → o ≡ p
one_outcome (reading.map n) reading.moved = absurd (n.1 refl)
one_outcome (reading.map n) (reading.unknown e) = absurd (n.0 refl)
one_outcome (reading.map n) (reading.called f e q) = absurd (n.0 refl)
one_outcome reading.moved (reading.map n) = absurd (n.1 refl)
one_outcome (reading.unknown e) (reading.map n) = absurd (n.0 refl)
one_outcome (reading.unknown e) (reading.called f e' q) = no_some _ f e e'
one_outcome (reading.called f e r) (reading.map n) = absurd (n.0 refl)
one_outcome (reading.called f e r) (reading.unknown e') = no_some _ f e' e
one_outcome (reading.called {name = name} {c = c} {d = d} {ts = ts} {o = o} f e r) (reading.called {o = o'} f' e' q) =
    let from : List TokenAtColumn = name_token_at_column name c ∷ sign_token_at_column OpenParenthesis d ∷ ts in
    ap (λ x. call x from o) (same_some (function_with_name name) f f' e e') ∙ ap (call f' from) (one_outcome r q)
one_outcome (reading.negated r) (reading.negated q) = ap outcome_after_minus (one_outcome r q)
one_outcome (reading.not r) (reading.not q) = ap outcome_after_not_sign (one_outcome r q)
one_outcome (reading.inside r) (reading.inside q) = ap outcome_in_parentheses (one_outcome r q)
one_outcome (nothing b) (nothing b') = refl
one_outcome (nothing b) _ = absurd b
one_outcome _ (nothing b) = absurd b
one_outcome (whole {k = k} {o = o} {p = p} r m) (whole {o = o'} {p = p'} q n) =
    one_outcome m (subst (λ x. ParserStateReadsAs (More k x) p') (sym (one_outcome r q)) n)
one_outcome (done e) (more op e' r m) = no_some _ op e e'
one_outcome (more op e' r m) (done e) = no_some _ op e e'
one_outcome (more {k = k} {ts = ts} {a = a} op e r m) (more {o = o'} {p = p'} op' e' r' m') =
    let same = same_some _ op' op e' e in
    let r'' = subst (λ x. ParserStateReadsAs (Whole (right_operand_level x) ts) o') same r' in
    let m'' = subst (λ x. ParserStateReadsAs (More k (outcome_after_operator x a o')) p') same m' in
    one_outcome m (subst (λ x. ParserStateReadsAs (More k (outcome_after_operator op a x)) p')
    (sym (one_outcome r r'')) m'')
one_outcome (expression {o = o} {p = p} r m) (expression {o = o'} {p = p'} q n) =
    one_outcome m (subst (λ x. ParserStateReadsAs (Choice x) p') (sym (one_outcome r q)) n)
one_outcome (unchosen e) (asked r m) = absurd (e refl)
one_outcome (asked r m) (unchosen e) = absurd (e refl)
one_outcome (asked {x = x} r m) (asked {p = p'} q n) =
    one_outcome m (subst (λ o. ParserStateReadsAs (AfterQuestion x o) p') (sym (one_outcome r q)) n)
one_outcome (no_colon e) (otherwise r) = absurd (e refl)
one_outcome (otherwise r) (no_colon e) = absurd (e refl)
one_outcome (otherwise {x = x} {a = a} r) (otherwise q) = ap (outcome_after_choice x a) (one_outcome r q)
one_outcome reading.none (reading.some e q) = absurd (e refl)
one_outcome (reading.some e r) reading.none = absurd (e refl)
one_outcome (reading.some e r) (reading.some e' q) = one_outcome r q
one_outcome (arguments {o = o} {p = p} r m) (arguments {o = o'} {p = p'} q n) =
    one_outcome m (subst (λ x. ParserStateReadsAs (Onward x) p') (sym (one_outcome r q)) n)
one_outcome reading.last (unended e f) = absurd (e refl)
one_outcome (reading.another {a = a} r) (reading.another q) = ap (outcome_with_argument a) (one_outcome r q)
one_outcome (reading.another r) (unended e f) = absurd (f refl)
one_outcome (unended e f) reading.last = absurd (e refl)
one_outcome (unended e f) (reading.another q) = absurd (f refl)
one_outcome _ _ = refl

below_up : (k : ℕ) (x : Option Operator) (op : Operator) → operator_below_level k x ≡ Some op
    → operator_below_level (suc k) x ≡ Some op
below_up k None op e = cc
below_up k (Some op') op e = grind (arith, nat_tests)

below_down : (k : ℕ) (x : Option Operator) → operator_below_level (suc k) x ≡ None → operator_below_level k x ≡ None
below_down k None e = refl
below_down k (Some op) e = grind (arith, nat_tests)

-- an outcome that continues at one level continues at the level above
widen_more : {k : ℕ} {o o' p : ExpressionReadOutcome} {a : Term} {rest : List TokenAtColumn} → ParserStateReadsAs (More k o) o' → o' ≡ Got a rest → ParserStateReadsAs (More (suc k) (Got a rest)) p → ParserStateReadsAs (More (suc k) o) p
widen_more stopped w m = absurd (let h : ⊥ = cc in h)
widen_more {k = k} {p = p} (done e) w m = subst (λ o. ParserStateReadsAs (More (suc k) o) p) (sym w) m
widen_more {k = k} (more {s = s} op e r n) w m = more op (below_up k (operator_of_token s.token) op e) r
    (widen_more n w m)

widen : {k : ℕ} {ts : List TokenAtColumn} {o' p : ExpressionReadOutcome} {a : Term} {rest : List TokenAtColumn} → ParserStateReadsAs (Whole k ts) o' → o' ≡ Got a rest → ParserStateReadsAs (More (suc k) (Got a rest)) p → ParserStateReadsAs (Whole (suc k) ts) p
widen (whole r n) w m = whole r (widen_more n w m)

-- the tokens that follow continue neither an expression of the level nor a name
abbrev pub Follows : ℕ → List TokenAtColumn → Type 0
Follows k rest = (first_continuing_operator k rest ≡ None) × TokenShowsMapWithoutOffsets (head_token rest)

-- after the tokens of an expression are read, the machine continues from that expression
abbrev pub IsRead : ℕ → List TokenAtColumn → Term → Type 0
IsRead zero ts a = (rest : List TokenAtColumn) → TokenShowsMapWithoutOffsets (head_token rest)
    → ParserStateReadsAs (Operand (ts ++ rest)) (Got a rest)
IsRead (suc k) ts a = (rest : List TokenAtColumn) (o : ExpressionReadOutcome) → Follows k rest → ParserStateReadsAs (More (suc k) (Got a rest)) o → ParserStateReadsAs (Whole (suc k) (ts ++ rest)) o

-- an expression is read if the tokens that follow do not continue it
abbrev IsAllRead : List TokenAtColumn → Term → Type 0
IsAllRead ts a = (rest : List TokenAtColumn) → Follows top_operator_level rest → TokenIsNotSign Question (head_token rest) → ParserStateReadsAs (Expression (ts ++ rest)) (Got a rest)

abbrev AreRead : List TokenAtColumn → ArgumentTerms → Type 0
AreRead ts xs = (rest : List TokenAtColumn) → ParserStateReadsAs (Arguments (ts ++ rest)) (GotAll xs rest)

abbrev IsCalledRead : List TokenAtColumn → ArgumentTerms → Type 0
IsCalledRead ts xs = (rest : List TokenAtColumn) → ParserStateReadsAs (Called (ts ++ rest)) (GotAll xs rest)

next_lower : (k : ℕ) (rest : List TokenAtColumn) → first_continuing_operator (suc k) rest ≡ None
    → first_continuing_operator k rest ≡ None
next_lower k [] e = refl
next_lower k (s ∷ rest) e = below_down k (operator_of_token s.token) e

-- an expression of a level is read in full if the tokens that follow do not continue it
read_whole : (k : ℕ) (ts : List TokenAtColumn) (a : Term) → IsRead k ts a → (rest : List TokenAtColumn) → Follows k rest → ParserStateReadsAs (Whole k (ts ++ rest)) (Got a rest)
read_whole zero ts a h rest e = whole (h rest e.1) (done e.0)
read_whole (suc k) ts a h rest e = h rest (Got a rest) (next_lower k rest e.0, e.1) (done e.0)

below_read : (k : ℕ) (ts : List TokenAtColumn) (a : Term) → IsRead k ts a → IsRead (suc k) ts a
below_read zero ts a h = λ rest o e m. whole (h rest e.1) m
below_read (suc k) ts a h = λ rest o e m. widen (read_whole (suc k) ts a h rest e) refl m

at_level : (op : Operator) (k : ℕ) → right_operand_level op ≡ k → (operator_below_level k (Some op) ≡ None) × (operator_below_level (suc k) (Some op) ≡ Some op)
at_level op k e =
    let down : operator_below_level k (Some op) ≡ None = grind (arith, nat_tests) in
    let up : operator_below_level (suc k) (Some op) ≡ Some op = grind (arith, nat_tests) in
    (down, up)

-- no argument list begins with a closing parenthesis
close_first : (ts rest : List TokenAtColumn) (xs : ArgumentTerms) → ParserStateReadsAs (Arguments ts) (GotAll xs rest) → TokenIsNotSign CloseParenthesis (head_token ts)
close_first [] rest xs r = λ e. cc
close_first (s ∷ ts) rest xs r = λ e.
    let same : s.token ≡ token.Sign CloseParenthesis = cc in
    let begins : TokenBeginsNoOperand (Some s.token) = rw same tt in
    let none = one_outcome (arguments (expression (whole (nothing begins) stopped) unread) halted) r in
    cc

near : (n : ℕ) → n ≤ 255 → nat_le n 255 ≡ true
near n h = grind (arith, nat_tests)

pub offset_read : {ts : List TokenAtColumn} {z : ℤ} → TokensDenoteOffset ts z → (rest : List TokenAtColumn)
    → offset_reading (ts ++ rest) ≡ Ok (z, rest)
offset_read (grammar.TokensDenoteOffset.plain {n = n} h) rest = rw (near n h)
offset_read (grammar.minus {n = n} h) rest = rw (near n h)
offset_read (grammar.plus {n = n} h) rest = rw (near n h)

offsets_read : {ts : List TokenAtColumn} {down right : ℤ} → TokensDenoteRowAndColumnOffsets ts down right → (rest : List TokenAtColumn) → reading.read_both_offsets (ts ++ rest) ≡ Ok ((down, right), rest)
offsets_read (grammar.offsets {ts = ts} {us = us} c d h g) rest =
    rw (append_assoc ts (sign_token_at_column Comma c ∷ (us ++ sign_token_at_column CloseBracket d ∷ [])) rest, offset_read h (sign_token_at_column Comma c ∷ ((us ++ sign_token_at_column CloseBracket d ∷ []) ++ rest)), append_assoc us (sign_token_at_column CloseBracket d ∷ []) rest, offset_read g (sign_token_at_column CloseBracket d ∷ rest))

mutual
  pub is_read : {k : ℕ} {ts : List TokenAtColumn} {a : Term} → Stands k ts a → IsRead k ts a
  is_read grammar.number = λ rest n. reading.number
  is_read grammar.map = λ rest n. reading.map n
  is_read (grammar.moved {name = name} {c = c} {d = d} {ts = ts} h) = λ rest n.
      subst (ParserStateReadsAs (Operand (name_token_at_column name c ∷ sign_token_at_column OpenBracket d ∷ (ts ++ rest)))) (ap (outcome_after_offsets name c) (offsets_read h rest)) reading.moved
  is_read (grammar.called {name = name} {c = c} {d = d} {ts = ts} {xs = xs} f e a s) = λ rest n.
      let from : List TokenAtColumn = name_token_at_column name c ∷ sign_token_at_column OpenParenthesis d
      ∷ (ts ++ rest) in
      subst (ParserStateReadsAs (Operand from)) (ap (λ b. outcome_of_checked_call b f xs from rest) a) (reading.called f e (is_called_read s rest))
  is_read (grammar.negated s) = λ rest n. reading.negated (is_read s rest n)
  is_read (grammar.not s) = λ rest n. reading.not (is_read s rest n)
  is_read (grammar.inside d s) = λ rest n.
      rw append_assoc (reading.inside (is_all_read s (sign_token_at_column CloseParenthesis d ∷ rest) (refl, (λ e. cc, λ e. cc)) (λ e. cc)))
  is_read (below {k = k} {ts = ts} {a = a} s) = below_read k ts a (is_read s)
  is_read (joined {k = k} {us = us} {b = b} s op e l sa sb) = λ rest o f m.
      let at = at_level op k l in
      let stop : first_continuing_operator k (s ∷ (us ++ rest)) ≡ None = ap (operator_below_level k) e ∙ at.0 in
      let go : first_continuing_operator (suc k) (s ∷ (us ++ rest)) ≡ Some op = ap (operator_below_level (suc k)) e
      ∙ at.1 in
      let right = subst (λ n. ParserStateReadsAs (Whole n (us ++ rest)) (Got b rest)) (sym l) (read_whole k us b (is_read sb) rest f) in
      rw append_assoc (is_read sa (s ∷ (us ++ rest)) o (stop, operator_alone s.token op e) (more op go right m))

  pub is_all_read : {ts : List TokenAtColumn} {a : Term} → IsExpression ts a → IsAllRead ts a
  is_all_read (grammar.IsExpression.plain {ts = ts} {a = a} s) = λ rest f q.
      expression (read_whole top_operator_level ts a (is_read s) rest f) (unchosen q)
  is_all_read (choice {ts = ts} {us = us} {vs = vs} {x = x} c d s t u) = λ rest f q.
      let colon : List TokenAtColumn = sign_token_at_column Colon d ∷ (vs ++ rest) in
      let first = read_whole top_operator_level ts x (is_read s) (sign_token_at_column Question c
      ∷ (us ++ colon)) (refl, (λ e. cc, λ e. cc)) in
      let second = is_all_read t colon (refl, (λ e. cc, λ e. cc)) (λ e. cc) in
      simp append_assoc (expression first (asked second (otherwise (is_all_read u rest f q))))

  pub is_called_read : {ts : List TokenAtColumn} {xs : ArgumentTerms} → AreCalled ts xs → IsCalledRead ts xs
  is_called_read grammar.none = λ rest. reading.none
  is_called_read (grammar.some {ts = ts} {xs = xs} s) = λ rest.
      reading.some (close_first (ts ++ rest) rest xs (are_read s rest)) (are_read s rest)

  pub are_read : {ts : List TokenAtColumn} {xs : ArgumentTerms} → AreArguments ts xs → AreRead ts xs
  are_read (grammar.last c s) = λ rest.
      rw append_assoc (arguments (is_all_read s (sign_token_at_column CloseParenthesis c ∷ rest) (refl, (λ e. cc, λ e. cc)) (λ e. cc)) reading.last)
  are_read (grammar.another {us = us} c s q) = λ rest.
      rw append_assoc
      (arguments (is_all_read s (sign_token_at_column Comma c ∷ (us ++ rest)) (refl, (λ e. cc, λ e. cc)) (λ e. cc)) (reading.another (are_read q rest)))

-- tokens that stand for an expression are read as that expression
pub read_all : (ts : List TokenAtColumn) (a : Term) → IsExpression ts a → ParserStateReadsAs (Expression ts) (Got a [])
read_all ts a s = subst (λ l. ParserStateReadsAs (Expression l) (Got a [])) (append-nil ts) (is_all_read s [] (refl, (λ e. cc, λ e. cc)) (λ e. cc))

abbrev term_of : ExpressionReadOutcome → Term
term_of (Got a rest) = a
term_of _ = Number 0

-- a list of tokens stands for at most one expression
pub tokens_denote_one_expression : (ts : List TokenAtColumn) (a b : Term) → IsExpression ts a → IsExpression ts b
    → a ≡ b
tokens_denote_one_expression ts a b s t = ap term_of (one_outcome (read_all ts a s) (read_all ts b t))
