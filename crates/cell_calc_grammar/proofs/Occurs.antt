-- Each name among the tokens that are read is read as an operand.
use Rattle.std.proofs.Common.{◌≡◌, ℕ, ℤ, List, [], ◌∷◌, ◌++◌, Some, Ok, Err, Bool, true, false, refl, sym, ap, ◌∙◌, subst}
use Rattle.cell_calc_grammar.specs.declared.calc_fault.CalcKind.{CalcKind}
use Rattle.cell_calc_grammar.specs.declared.operator.Operator.{Operator}
use Rattle.cell_calc_grammar.specs.declared.token.TokenAtColumn.{TokenAtColumn}
use Rattle.cell_calc_grammar.specs.declared.token.Sign.TheVariants.{Minus, Exclamation, Question, Colon, OpenParenthesis, CloseParenthesis, OpenBracket, CloseBracket, Comma}
use Rattle.cell_calc_grammar.specs.declared.token.Token.{Token}
use Rattle.cell_calc_grammar.specs.declared.token.Token.TheVariants as token
use Rattle.cell_calc_grammar.specs.Function.{accepts_argument_count}
use Rattle.cell_calc_grammar.specs.Operator.{operator_of_token}
use Rattle.cell_calc_grammar.specs.Grammar as grammar
use Rattle.cell_calc_grammar.specs.Grammar.{TokensDenoteOffset, TokensDenoteRowAndColumnOffsets}
use Rattle.cell_calc_grammar.specs.TokensRead as reading
use Rattle.cell_calc_grammar.specs.TokensRead.{ExpressionPartReading, tokens_after_first, read_part_then_next, distance_reading_of_first_token, distance_reading, offset_reading_of_distance, offset_reading_of_first_token, offset_reading, comma_reading_of_first_token, closing_bracket_reading_of_token, second_offset_and_bracket_reading, ExpressionReadOutcome, Got, GotAll, Stops, ParserState, Operand, Whole, More, Expression, Choice, AfterQuestion, Called, Arguments, Onward, first_continuing_operator, outcome_after_parenthesis, outcome_in_parentheses, outcome_after_operator, outcome_after_choice, outcome_after_offsets, outcome_of_checked_call, call, outcome_with_argument, ParserStateReadsAs, nothing, whole, stopped, done, more, expression, unread, unchosen, asked, unasked, no_colon, otherwise, arguments, halted, unended}
use Rattle.cell_calc_grammar.specs.Term.{Term, argument_count}
use Rattle.cell_calc_grammar.specs.Token.{number_token_at_column, name_token_at_column, sign_token_at_column}
use Rattle.cell_calc_grammar.specs.Token.{head_token}
use Rattle.cell_calc_grammar.proofs.Sound.{below_some, Looks, ASign, look, Signed, unsigned, minus, plus, NoOffsets, first, no_comma, second, no_bracket, IsPart, AreBoth, offsets_part, both_parts, sound}
use Rattle.cell_calc_grammar.proofs.Splits.{Stays, in_first, in_second, stays, not_nothing}

-- the tokens that an outcome leaves unread
abbrev pub left : ExpressionReadOutcome → List TokenAtColumn
left (Got a rest) = rest
left (GotAll xs rest) = rest
left (Stops kind rest) = rest

-- the tokens that a state still has to read
abbrev pub tokens : ParserState → List TokenAtColumn
tokens (Operand ts) = ts
tokens (Whole k ts) = ts
tokens (More k o) = left o
tokens (Expression ts) = ts
tokens (Choice o) = left o
tokens (AfterQuestion x o) = left o
tokens (Called ts) = ts
tokens (Arguments ts) = ts
tokens (Onward o) = left o

-- the tokens are read as an operand, and if reading the operand stops, so does the outcome
abbrev pub Found : List TokenAtColumn → ExpressionReadOutcome → Type 0
Found us o =
    (q : ExpressionReadOutcome) × ParserStateReadsAs (Operand us) q
    × ((kind : CalcKind) (rest : List TokenAtColumn) → q ≡ Stops kind rest → o ≡ Stops kind rest)

-- each name before the unread tokens is read as an operand
abbrev FindsNames : (before rest : List TokenAtColumn) → ExpressionReadOutcome → Type 0
FindsNames before rest o =
    (b mid : List TokenAtColumn) (name : List ℕ) (c : ℕ) → before ≡ b ++ name_token_at_column name c ∷ mid
    → Found (name_token_at_column name c ∷ (mid ++ rest)) o

pub record Finds (ts rest : List TokenAtColumn) (o : ExpressionReadOutcome) : Type 0 where
  pub before : List TokenAtColumn
  pub all : ts ≡ before ++ rest
  pub finds : (b mid : List TokenAtColumn) (name : List ℕ) (c : ℕ) → before ≡ b ++ name_token_at_column name c ∷ mid → Found (name_token_at_column name c ∷ (mid ++ rest)) o

abbrev IsNoName : Token → Type 0
IsNoName (token.Name n) = ⊥
IsNoName _ = Unit {0}

abbrev IsNoStop : ExpressionReadOutcome → Type 0
IsNoStop (Stops kind rest) = ⊥
IsNoStop _ = Unit {0}

finds_nothing : {ts : List TokenAtColumn} {o : ExpressionReadOutcome} → Finds ts ts o
finds_nothing =
    record {
      before = [];
      all = refl;
      finds = λ b mid name c e. absurd
          (not_nothing b (name_token_at_column name c) mid e);
    }

finds_after : (s : TokenAtColumn) (l rest : List TokenAtColumn) (o : ExpressionReadOutcome) → IsNoName s.token
    → FindsNames l rest o
    → FindsNames (s ∷ l) rest o
finds_after s l rest o n f [] mid name c e =
    let same : s ≡ name_token_at_column name c = cc in
    absurd (subst (λ (x : TokenAtColumn). IsNoName x.token) same n)
finds_after s l rest o n f (x ∷ b) mid name c e =
    let same : l ≡ b ++ name_token_at_column name c ∷ mid = cc in
    f b mid name c same

finds_next : (s : TokenAtColumn) {ts rest : List TokenAtColumn} {o : ExpressionReadOutcome} → IsNoName s.token
    → Finds ts rest o
    → Finds (s ∷ ts) rest o
finds_next s {rest = rest} {o = o} n w =
    record { before = s ∷ w.before; all = ap (λ l. s ∷ l) w.all; finds = finds_after s w.before rest o n w.finds }

-- the names found before an outcome that is not a stop are found for any outcome
finds_any : {ts rest : List TokenAtColumn} (o : ExpressionReadOutcome) {p : ExpressionReadOutcome} → IsNoStop o
    → Finds ts rest o → Finds ts rest p
finds_any o n f = record {
  before = f.before;
  all = f.all;
  finds = λ b mid name c e.
      let g = f.finds b mid name c e in
      (g.0, g.1, λ kind us h. absurd (subst IsNoStop (g.2 kind us h) n));
}

finds_then : {ts us rest : List TokenAtColumn} {o : ExpressionReadOutcome} → Finds ts us o → Finds us rest o
    → Finds ts rest o
finds_then {rest = rest} {o = o} f g = record {
  before = f.before ++ g.before;
  all = both_parts f.before g.before rest f.all g.all;
  finds = λ b mid name c e. go b mid name c (stays f.before g.before b (name_token_at_column name c) mid e);
}
  where
    go : (b mid : List TokenAtColumn) (name : List ℕ) (c : ℕ)
        → Stays f.before g.before b (name_token_at_column name c) mid
        → Found (name_token_at_column name c ∷ (mid ++ rest)) o
    go b mid name c (in_first m e h) =
        subst (λ l. Found (name_token_at_column name c ∷ l) o) (both_parts m g.before rest refl g.all
        ∙ ap (λ l. l ++ rest) (sym h))
        (f.finds b m name c e)
    go b mid name c (in_second m e h) = g.finds m mid name c e

-- if an operand begins with a name, that name is found
finds_self : (s : TokenAtColumn) {ts rest : List TokenAtColumn} {o : ExpressionReadOutcome}
    → ParserStateReadsAs (Operand (s ∷ ts)) o
    → Finds ts rest o
    → Finds (s ∷ ts) rest o
finds_self s {ts = ts} {rest = rest} {o = o} r w =
    record { before = s ∷ w.before; all = ap (λ l. s ∷ l) w.all; finds = go }
  where
    go : FindsNames (s ∷ w.before) rest o
    go [] mid name c e =
        let same : s ≡ name_token_at_column name c = cc in
        let others : w.before ≡ mid = cc in
        let all = ap (λ x. x ∷ ts) same ∙ ap (λ l. name_token_at_column name c ∷ l) (w.all
        ∙ ap (λ l. l ++ rest) others) in
        (o, subst (λ l. ParserStateReadsAs (Operand l) o) all r, λ kind us h. h)
    go (x ∷ b) mid name c e =
        let others : w.before ≡ b ++ name_token_at_column name c ∷ mid = cc in
        w.finds b mid name c others

-- the tokens include no names
abbrev AreNoNames : List TokenAtColumn → Type 0
AreNoNames [] = Unit {0}
AreNoNames (s ∷ ts) = IsNoName s.token × AreNoNames ts

no_names_append : (ts us : List TokenAtColumn) → AreNoNames ts → AreNoNames us → AreNoNames (ts ++ us)
no_names_append [] us h g = g
no_names_append (s ∷ ts) us h g = (h.0, no_names_append ts us h.1 g)

finds_no_names : (front : List TokenAtColumn) {ts rest : List TokenAtColumn} {o : ExpressionReadOutcome}
    → ts ≡ front ++ rest → AreNoNames front
    → Finds ts rest o
finds_no_names front {rest = rest} {o = o} e h = record { before = front; all = e; finds = go front h }
  where
    go : (l : List TokenAtColumn) → AreNoNames l → FindsNames l rest o
    go [] n b mid name c f = absurd (not_nothing b (name_token_at_column name c) mid f)
    go (s ∷ l) n b mid name c f = finds_after s l rest o n.0 (go l n.1) b mid name c f

offset_names : {ts : List TokenAtColumn} {z : ℤ} → TokensDenoteOffset ts z → AreNoNames ts
offset_names (TokensDenoteOffset.plain h) = (tt, tt)
offset_names (grammar.minus h) = (tt, (tt, tt))
offset_names (grammar.plus h) = (tt, (tt, tt))

signed_names : {f : ℕ → ℤ} {ts : List TokenAtColumn} → Signed f ts → AreNoNames ts
signed_names unsigned = tt
signed_names minus = (tt, tt)
signed_names plus = (tt, tt)

stop_names : {kind : CalcKind} {front rest : List TokenAtColumn} → NoOffsets kind front rest → AreNoNames front
stop_names (first h) = signed_names h.1
stop_names (no_comma o n) = offset_names o
stop_names (second {front = front} {mid = mid} c o h) =
    no_names_append front (sign_token_at_column Comma c ∷ mid) (offset_names o) (tt, signed_names h.1)
stop_names (no_bracket {front = front} {mid = mid} c o i n) =
    no_names_append front (sign_token_at_column Comma c ∷ mid) (offset_names o) (tt, offset_names i)

offsets_names : {ts : List TokenAtColumn} {down right : ℤ} → TokensDenoteRowAndColumnOffsets ts down right
    → AreNoNames ts
offsets_names (grammar.offsets {ts = ts} {us = us} c d h g) =
    no_names_append ts (sign_token_at_column Comma c ∷ (us ++ sign_token_at_column CloseBracket d ∷ []))
    (offset_names h)
    (tt, no_names_append us (sign_token_at_column CloseBracket d ∷ []) (offset_names g) (tt, tt))

abbrev pub FindsOf : List TokenAtColumn → ExpressionReadOutcome → Type 0
FindsOf ts o = Finds ts (left o) o

finds_moved : (name : List ℕ) (c d : ℕ) (ts : List TokenAtColumn) (p : ExpressionPartReading (ℤ × ℤ))
    → ParserStateReadsAs (Operand (name_token_at_column name c ∷ sign_token_at_column OpenBracket d ∷ ts))
    (outcome_after_offsets name c p)
    → IsPart AreBoth NoOffsets ts p
    → FindsOf (name_token_at_column name c ∷ sign_token_at_column OpenBracket d ∷ ts) (outcome_after_offsets name c p)
finds_moved name c d ts (Ok x) r h =
    finds_self (name_token_at_column name c) r (finds_next (sign_token_at_column OpenBracket d) tt
    (finds_no_names h.0 h.1 (offsets_names h.2)))
finds_moved name c d ts (Err e) r h =
    finds_self (name_token_at_column name c) r (finds_next (sign_token_at_column OpenBracket d) tt
    (finds_no_names h.0 h.1 (stop_names h.2)))

finds_closed : (c : ℕ) (ts : List TokenAtColumn) (a : Term) {rest : List TokenAtColumn} → Looks rest
    → FindsOf ts (Got a rest)
    → FindsOf (sign_token_at_column OpenParenthesis c ∷ ts) (outcome_after_parenthesis (head_token rest) a rest)
finds_closed c ts a (ASign CloseParenthesis d rest) w =
    finds_next (sign_token_at_column OpenParenthesis c) tt
    (finds_then (finds_any (Got a (sign_token_at_column CloseParenthesis d ∷ rest)) tt w) (finds_no_names (sign_token_at_column CloseParenthesis d ∷ []) refl (tt, tt)))
finds_closed c ts a {rest = rest} _ w = finds_next (sign_token_at_column OpenParenthesis c) tt
    (finds_any (Got a rest) tt w)

no_name : (t : Token) (op : Operator) → operator_of_token t ≡ Some op → IsNoName t
no_name (token.Name n) op e = let h : ⊥ = cc in absurd h
no_name _ op e = tt

pub find : {s : ParserState} {o : ExpressionReadOutcome} → ParserStateReadsAs s o → FindsOf (tokens s) o
find (reading.number {n = n} {c = c}) = finds_next (number_token_at_column n c) tt finds_nothing
find (reading.map {name = name} {c = c} f) = finds_self (name_token_at_column name c) (reading.map f) finds_nothing
find (reading.moved {name = name} {c = c} {d = d} {ts = ts}) =
    finds_moved name c d ts (reading.read_both_offsets ts) reading.moved (offsets_part ts)
find (reading.called {o = Got a rest} f e r) = absurd (sound r)
find (reading.called {name = name} {c = c} {d = d} {o = Stops kind rest} f e r) =
    finds_self (name_token_at_column name c) (reading.called f e r)
    (finds_next (sign_token_at_column OpenParenthesis d) tt (find r))
find (reading.called {name = name} {c = c} {d = d} {ts = ts} {o = GotAll xs rest} f e r) =
    go (accepts_argument_count f (argument_count xs)) (reading.called f e r) (find r)
  where
    opens : List TokenAtColumn
    opens = name_token_at_column name c ∷ sign_token_at_column OpenParenthesis d ∷ []

    go : (b : Bool) → ParserStateReadsAs (Operand (opens ++ ts)) (outcome_of_checked_call b f xs (opens ++ ts) rest)
        → FindsOf ts (GotAll xs rest)
        → FindsOf (opens ++ ts) (outcome_of_checked_call b f xs (opens ++ ts) rest)
    go true q w =
        finds_self (name_token_at_column name c) q (finds_next (sign_token_at_column OpenParenthesis d) tt
        (finds_any (GotAll xs rest) tt w))
    go false q w = finds_nothing
find (reading.negated {c = c} {o = Stops kind rest} r) = finds_next (sign_token_at_column Minus c) tt (find r)
find (reading.negated {c = c} {o = o} r) = finds_next (sign_token_at_column Minus c) tt (finds_any o tt (find r))
find (reading.not {c = c} {o = Stops kind rest} r) = finds_next (sign_token_at_column Exclamation c) tt (find r)
find (reading.not {c = c} {o = o} r) = finds_next (sign_token_at_column Exclamation c) tt (finds_any o tt (find r))
find (reading.inside {c = c} {ts = ts} {o = Got a rest} r) = finds_closed c ts a (look rest) (find r)
find (reading.inside {o = GotAll xs rest} r) = absurd (sound r)
find (reading.inside {c = c} {o = Stops kind rest} r) = finds_next (sign_token_at_column OpenParenthesis c) tt (find r)
find (whole r stopped) = find r
find (whole {o = o} r m) = finds_then (finds_any o tt (find r)) (find m)
find (more {k = k} {s = s} {o = Stops kind us} op e r stopped) =
    finds_next s (no_name s.token op (below_some k (operator_of_token s.token) op e).0) (find r)
find (more {k = k} {s = s} {o = o} op e r m) =
    finds_next s (no_name s.token op (below_some k (operator_of_token s.token) op e).0)
    (finds_then (finds_any o tt (find r)) (find m))
find (expression r unread) = find r
find (expression {o = o} r m) = finds_then (finds_any o tt (find r)) (find m)
find (asked {c = c} r unasked) = finds_next (sign_token_at_column Question c) tt (find r)
find (asked {c = c} {o = o} r m) =
    finds_next (sign_token_at_column Question c) tt (finds_then (finds_any o tt (find r)) (find m))
find (otherwise {c = c} {o = Stops kind rest} r) = finds_next (sign_token_at_column Colon c) tt (find r)
find (otherwise {c = c} {o = o} r) = finds_next (sign_token_at_column Colon c) tt (finds_any o tt (find r))
find (reading.none {c = c}) = finds_next (sign_token_at_column CloseParenthesis c) tt finds_nothing
find (reading.some n r) = find r
find (arguments r halted) = find r
find (arguments {o = o} r m) = finds_then (finds_any o tt (find r)) (find m)
find (reading.last {c = c}) = finds_next (sign_token_at_column CloseParenthesis c) tt finds_nothing
find (reading.another {c = c} {o = Stops kind rest} r) = finds_next (sign_token_at_column Comma c) tt (find r)
find (reading.another {c = c} {o = o} r) = finds_next (sign_token_at_column Comma c) tt (finds_any o tt (find r))
find _ = finds_nothing
