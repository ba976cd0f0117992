-- If more is expected after some tokens, the walk of their shapes cannot continue with the next token.
use Rattle.std.proofs.Common.{◌≡◌, ℕ, ℤ, List, [], ◌∷◌, ◌++◌, Option, Some, None, Ok, Err, Bool, true, false, refl, sym, ap, ◌∙◌, subst}
use Rattle.cell_calc_grammar.specs.declared.calc_fault.CalcKind.{CalcKind}
use Rattle.cell_calc_grammar.specs.declared.calc_fault.CalcKind.TheVariants.{Expected}
use Rattle.cell_calc_grammar.specs.declared.operator.Operator.{Operator}
use Rattle.cell_calc_grammar.specs.declared.operator.Operator.TheVariants.{Times}
use Rattle.cell_calc_grammar.specs.declared.token.TokenAtColumn.{TokenAtColumn}
use Rattle.cell_calc_grammar.specs.declared.token.Sign.TheVariants.{Plus, Minus, Exclamation, Question, Colon, OpenParenthesis, CloseParenthesis, OpenBracket, CloseBracket, Comma}
use Rattle.cell_calc_grammar.specs.declared.token.Token.{Token}
use Rattle.cell_calc_grammar.specs.declared.token.Token.TheVariants as token
use Rattle.cell_calc_grammar.specs.Function.{accepts_argument_count}
use Rattle.cell_calc_grammar.specs.Operator.{operator_of_token, top_operator_level}
use Rattle.cell_calc_grammar.specs.TokensRead as reading
use Rattle.cell_calc_grammar.specs.TokensRead.{ExpressionPartReading, tokens_after_first, read_part_then_next, distance_reading_of_first_token, distance_reading, offset_reading_of_distance, offset_reading_of_first_token, offset_reading, comma_reading_of_first_token, closing_bracket_reading_of_token, second_offset_and_bracket_reading, ExpressionReadOutcome, Got, GotAll, Stops, ParserState, Operand, Whole, More, Expression, Choice, AfterQuestion, Called, Arguments, Onward, operator_below_level, first_continuing_operator, TokenIsNotSign, TokenShowsMapWithoutOffsets, TokenBeginsNoOperand, outcome_after_parenthesis, outcome_in_parentheses, outcome_after_operator, outcome_after_choice, outcome_after_offsets, outcome_of_checked_call, call, outcome_with_argument, ParserStateReadsAs, nothing, whole, stopped, done, more, expression, unread, unchosen, asked, unasked, no_colon, otherwise, arguments, halted, unended}
use Rattle.cell_calc_grammar.specs.Shape.{token_without_value, tokens_without_values}
use Rattle.cell_calc_grammar.specs.Term.{Term, argument_count}
use Rattle.cell_calc_grammar.specs.Token.{number_token_at_column, name_token_at_column, sign_token_at_column}
use Rattle.cell_calc_grammar.specs.Token.{head_token}
use Rattle.cell_calc_grammar.proofs.Occurs.{left}
use Rattle.cell_calc_grammar.proofs.Sound.{below_some, Looks, ASign, look, unsigned, IsNoNumber, none, NoOffset, NoOffsets, first, no_comma, second, no_bracket, IsPart, AreBoth, offsets_part, both_parts, IsSound, sound}
use Rattle.cell_calc_grammar.proofs.Walk as place
use Rattle.cell_calc_grammar.proofs.Walk.{Frame, Parenthesis, Argument, Choosing, Place, Offset, Signed, Between, Opened, Named, After, operand_step, ends_step, asks_step, joins_step, after_step, step, step_on, walk, walk_both, operator_shape, operator_after, named_alone, opened_walk, offset_makes, comma_makes, offsets_make}

-- for this next token, the place is a place after an operand
abbrev pub GoesAs : List Frame → Option Token → Option Place → Type 0
GoesAs st None p = Unit {0}
GoesAs st (Some t) p = step_on p (token_without_value t) ≡ after_step st (token_without_value t)

-- the next token cannot come at the place
abbrev pub Refuses : Option Token → Option Place → Type 0
Refuses None p = Unit {0}
Refuses (Some t) p = step_on p (token_without_value t) ≡ None

-- the next token is neither an operator nor a question mark
abbrev pub IsQuiet : Option Token → Type 0
IsQuiet None = Unit {0}
IsQuiet (Some t) = (operator_of_token t ≡ None) × TokenIsNotSign Question (Some t)

-- the tokens up to the rest are walked from the place p to a place with the property Q
pub record Walks (Q : Option Place → Type 0) (p : Option Place) (ts rest : List TokenAtColumn) : Type 0 where
  pub before : List TokenAtColumn
  pub all : ts ≡ before ++ rest
  pub ends : Q (walk p (tokens_without_values before))

walks_here : {Q : Option Place → Type 0} {p : Option Place} {ts : List TokenAtColumn} → Q p → Walks Q p ts ts
walks_here h = record { before = []; all = refl; ends = h }

walks_next : {Q : Option Place → Type 0} {p : Option Place} (s : TokenAtColumn) {ts rest : List TokenAtColumn}
    → Walks Q (step_on p (token_without_value s.token)) ts rest → Walks Q p (s ∷ ts) rest
walks_next s w = record { before = s ∷ w.before; all = ap (λ l. s ∷ l) w.all; ends = w.ends }

walks_then : {Q R : Option Place → Type 0} {p : Option Place} {ts us rest : List TokenAtColumn}
    → Walks Q p ts us → ((q : Option Place) → Q q → Walks R q us rest) → Walks R p ts rest
walks_then {R = R} {p = p} {rest = rest} w f =
    let v = f (walk p (tokens_without_values w.before)) w.ends in
    record {
      before = w.before ++ v.before;
      all = both_parts w.before v.before rest w.all v.all;
      ends = subst R (sym (walk_both p w.before v.before)) v.ends;
    }

walks_from : {Q : Option Place → Type 0} {p q : Option Place} {ts rest : List TokenAtColumn} → p ≡ q → Walks Q q ts rest
    → Walks Q p ts rest
walks_from {Q = Q} {ts = ts} {rest = rest} e w = subst (λ x. Walks Q x ts rest) (sym e) w

number_refused : (b : Bool) (st : List Frame) (t : Option Token) → IsNoNumber t → Refuses t (Some (Signed b st))
number_refused b st None n = tt
number_refused b st (Some (token.Number k)) n = absurd n
number_refused b st (Some _) n = refl

offset_refused : (b : Bool) (st : List Frame) (t : Option Token) → IsNoNumber t → TokenIsNotSign Minus t
    × TokenIsNotSign Plus t
    → Refuses t (Some (Offset b st))
offset_refused b st None n q = tt
offset_refused b st (Some (token.Number k)) n q = absurd n
offset_refused b st (Some (token.Sign Minus)) n q = absurd (q.0 refl)
offset_refused b st (Some (token.Sign Plus)) n q = absurd (q.1 refl)
offset_refused b st (Some _) n q = refl

-- if reading an offset stops, the next token cannot come
stop_refused : (b : Bool) (st : List Frame) {front rest : List TokenAtColumn} → NoOffset Expected front rest
    → Refuses (head_token rest) (walk (Some (Offset b st)) (tokens_without_values front))
stop_refused b st {rest = rest} (f, unsigned, q, none n) = offset_refused b st (head_token rest) n (q refl)
stop_refused b st {rest = rest} (f, _, q, none n) = number_refused b st (head_token rest) n

comma_refused : (st : List Frame) (t : Option Token) → TokenIsNotSign Comma t → Refuses t (Some (Between false st))
comma_refused st None n = tt
comma_refused st (Some (token.Sign Comma)) n = absurd (n refl)
comma_refused st (Some _) n = refl

bracket_refused : (st : List Frame) (t : Option Token) → TokenIsNotSign CloseBracket t
    → Refuses t (Some (Between true st))
bracket_refused st None n = tt
bracket_refused st (Some (token.Sign CloseBracket)) n = absurd (n refl)
bracket_refused st (Some _) n = refl

-- if reading offsets stops, the next token cannot come
offsets_refused : (st : List Frame) {front rest : List TokenAtColumn} → NoOffsets Expected front rest
    → Refuses (head_token rest) (walk (Some (Offset false st)) (tokens_without_values front))
offsets_refused st (first h) = stop_refused false st h
offsets_refused st {rest = rest} (no_comma o n) = rw (offset_makes false st o) (comma_refused st (head_token rest) n)
offsets_refused st (second {mid = mid} c o h) = rw (comma_makes st c mid o) (stop_refused true st h)
offsets_refused st {rest = rest} (no_bracket {mid = mid} c o i n) =
    rw (comma_makes st c mid o, offset_makes true st i) (bracket_refused st (head_token rest) n)

-- the property of the place to which the tokens of an outcome are walked
abbrev pub Ends : List Frame → ExpressionReadOutcome → Option Place → Type 0
Ends st (Got a rest) p = GoesAs st (head_token rest) p
Ends st (GotAll xs rest) p = p ≡ Some (After st)
Ends st (Stops kind rest) p = kind ≡ Expected → Refuses (head_token rest) p

-- the next token after an expression is neither an operator nor a question mark
abbrev pub EndsQuiet : ExpressionReadOutcome → Type 0
EndsQuiet (Got a rest) = IsQuiet (head_token rest)
EndsQuiet _ = Unit {0}

-- the next token after an expression is not an operator
abbrev EndsWhole : ExpressionReadOutcome → Type 0
EndsWhole (Got a rest) = first_continuing_operator top_operator_level rest ≡ None
EndsWhole _ = Unit {0}

-- the tokens that are read are walked, and if more is expected, the next token cannot come
abbrev pub IsWalked : ParserState → ExpressionReadOutcome → Type 0
IsWalked (Operand ts) o = (st : List Frame) → Walks (Ends st o) (Some (place.Operand st)) ts (left o)
IsWalked (Whole k ts) o = (st : List Frame) → Walks (Ends st o) (Some (place.Operand st)) ts (left o)
IsWalked (More k o) p = (st : List Frame) (q : Option Place) → Ends st o q → Walks (Ends st p) q (left o) (left p)
IsWalked (Expression ts) o = EndsQuiet o × ((st : List Frame) → Walks (Ends st o) (Some (place.Operand st)) ts (left o))
IsWalked (Choice o) p =
    EndsWhole o → EndsQuiet p
    × ((st : List Frame) (q : Option Place) → Ends st o q → Walks (Ends st p) q (left o) (left p))
IsWalked (AfterQuestion x o) p =
    EndsQuiet o → EndsQuiet p
    × ((st : List Frame) (q : Option Place) → Ends (Choosing ∷ st) o q → Walks (Ends st p) q (left o) (left p))
IsWalked (Called ts) o = (st : List Frame) → Walks (Ends st o) (Some (Opened st)) ts (left o)
IsWalked (Arguments ts) o = (st : List Frame) → Walks (Ends st o) (Some (place.Operand (Argument ∷ st))) ts (left o)
IsWalked (Onward o) p =
    EndsQuiet o → (st : List Frame) (q : Option Place) → Ends (Argument ∷ st) o q
    → Walks (Ends st p) q (left o) (left p)

after_goes : (st : List Frame) (t : Option Token) → GoesAs st t (Some (After st))
after_goes st None = tt
after_goes st (Some t) = refl

alone_shape : (t : Token) → TokenShowsMapWithoutOffsets (Some t)
    → TokenShowsMapWithoutOffsets (Some (token_without_value t))
alone_shape (token.Sign s) h = h
alone_shape _ h = (λ e. cc, λ e. cc)

named_goes : (st : List Frame) (t : Option Token) → TokenShowsMapWithoutOffsets t → GoesAs st t (Some (Named st))
named_goes st None h = tt
named_goes st (Some t) h = named_alone st (token_without_value t) (alone_shape t h)

begins_refused : (st : List Frame) (t : Option Token) → TokenBeginsNoOperand t → Refuses t (Some (place.Operand st))
begins_refused st None b = tt
begins_refused st (Some (token.Number n)) b = absurd b
begins_refused st (Some (token.Name n)) b = absurd b
begins_refused st (Some (token.Sign Minus)) b = absurd b
begins_refused st (Some (token.Sign Exclamation)) b = absurd b
begins_refused st (Some (token.Sign OpenParenthesis)) b = absurd b
begins_refused st (Some _) b = refl

asks_quiet : (st : List Frame) (t : Token) → TokenIsNotSign Question (Some t) → asks_step st (token_without_value t) ≡ ends_step st (token_without_value t)
asks_quiet st (token.Sign Question) n = absurd (n refl)
asks_quiet st _ n = refl

pub quiet_step : (st : List Frame) (t : Token) → IsQuiet (Some t) → after_step st (token_without_value t) ≡ ends_step st (token_without_value t)
quiet_step st t q = ap (joins_step st (token_without_value t)) (operator_shape t ∙ q.0) ∙ asks_quiet st t q.1

-- a token cannot come at a place if it is quiet and does not end any open part
quiet_refused : (st : List Frame) (t : Option Token) (p : Option Place) → IsQuiet t → GoesAs st t p → ((s : Token) → t ≡ Some s → ends_step st (token_without_value s) ≡ None) → Refuses t p
quiet_refused st None p q g e = tt
quiet_refused st (Some t) p q g e = g ∙ quiet_step st t q ∙ e t refl

parenthesis_refused : (st : List Frame) (t : Option Token) → TokenIsNotSign CloseParenthesis t → (s : Token) → t ≡ Some s → ends_step (Parenthesis ∷ st) (token_without_value s) ≡ None
parenthesis_refused st t n (token.Sign CloseParenthesis) e = absurd (n e)
parenthesis_refused st t n _ e = refl

choosing_refused : (st : List Frame) (t : Option Token) → TokenIsNotSign Colon t → (s : Token) → t ≡ Some s → ends_step (Choosing ∷ st) (token_without_value s) ≡ None
choosing_refused st t n (token.Sign Colon) e = absurd (n e)
choosing_refused st t n _ e = refl

argument_refused : (st : List Frame) (t : Option Token) → TokenIsNotSign CloseParenthesis t → TokenIsNotSign Comma t → (s : Token) → t ≡ Some s → ends_step (Argument ∷ st) (token_without_value s) ≡ None
argument_refused st t n m (token.Sign CloseParenthesis) e = absurd (n e)
argument_refused st t n m (token.Sign Comma) e = absurd (m e)
argument_refused st t n m _ e = refl

pub top_refused : (s : Token) → ends_step [] (token_without_value s) ≡ None
top_refused s = refl

walked_moved : (name : List ℕ) (c d : ℕ) (ts : List TokenAtColumn) (p : ExpressionPartReading (ℤ × ℤ))
    → IsPart AreBoth NoOffsets ts p
    → IsWalked (Operand (name_token_at_column name c ∷ sign_token_at_column OpenBracket d ∷ ts))
    (outcome_after_offsets name c p)
walked_moved name c d ts (Ok x) (front, e, h) = λ st.
    let goes = subst (GoesAs st (head_token x.1)) (sym (offsets_make st h)) (after_goes st (head_token x.1)) in
    walks_next (name_token_at_column name c) (walks_next (sign_token_at_column OpenBracket d)
    (record { before = front; all = e; ends = goes }))
walked_moved name c d ts (Err (kind, rest)) (front, e, h) = λ st.
    let refused : Ends st (Stops kind rest) (walk (Some (Offset false st)) (tokens_without_values front)) = λ k.
    offsets_refused st (subst (λ x. NoOffsets x front rest) k h) in
    walks_next (name_token_at_column name c)
    (walks_next (sign_token_at_column OpenBracket d) (record { before = front; all = e; ends = refused }))

walked_closed : (c : ℕ) (ts : List TokenAtColumn) (a : Term) {rest : List TokenAtColumn} → Looks rest
    → IsWalked (Expression ts) (Got a rest) → IsWalked (Operand (sign_token_at_column OpenParenthesis c ∷ ts)) (outcome_after_parenthesis (head_token rest) a rest)
walked_closed c ts a (ASign CloseParenthesis d rest) h = λ st.
    let closed = λ (q : Option Place) (g : GoesAs (Parenthesis ∷ st) (Some (token.Sign CloseParenthesis)) q).
    walks_next (sign_token_at_column CloseParenthesis d) (walks_from g (walks_here {Q = GoesAs st (head_token rest)} (after_goes st (head_token rest)))) in
    walks_next (sign_token_at_column OpenParenthesis c) (walks_then (h.1 (Parenthesis ∷ st)) closed)
walked_closed c ts a {rest = rest} _ h = λ st.
    let open_on = parenthesis_refused st (head_token rest) (λ k. cc) in
    walks_next (sign_token_at_column OpenParenthesis c)
    (walks_then (h.1 (Parenthesis ∷ st)) (λ q g. walks_here (λ _. quiet_refused (Parenthesis ∷ st) (head_token rest) q h.0 g open_on)))

none_joins : (x : Option Operator) → operator_below_level top_operator_level x ≡ None → x ≡ None
none_joins None e = refl
none_joins (Some Times) e = absurd (let h : ⊥ = cc in h)
none_joins (Some _) e = absurd (let h : ⊥ = cc in h)

quiet : (ts : List TokenAtColumn) → first_continuing_operator top_operator_level ts ≡ None
    → TokenIsNotSign Question (head_token ts) → IsQuiet (head_token ts)
quiet [] e n = tt
quiet (s ∷ ts) e n = (none_joins (operator_of_token s.token) e, n)

ends_whole : (ts : List TokenAtColumn) (o : ExpressionReadOutcome) → IsSound (Whole top_operator_level ts) o
    → EndsWhole o
ends_whole ts (Got a rest) h = h.3
ends_whole ts _ h = tt

opened_as : (st : List Frame) (t : Token) → TokenIsNotSign CloseParenthesis (Some t) → step (Opened st) (token_without_value t) ≡ operand_step (Argument ∷ st) (token_without_value t)
opened_as st (token.Sign CloseParenthesis) n = absurd (n refl)
opened_as st _ n = refl

opened_refused : (st : List Frame) (kind : CalcKind) (ts rest : List TokenAtColumn)
    → TokenIsNotSign CloseParenthesis (head_token ts)
    → Walks (Ends st (Stops kind rest)) (Some (place.Operand (Argument ∷ st))) ts rest
    → Walks (Ends st (Stops kind rest)) (Some (Opened st)) ts rest
opened_refused st kind ts rest n w = go w.before w.all w.ends
  where
    here : (us : List TokenAtColumn) → TokenIsNotSign CloseParenthesis (head_token us)
        → Refuses (head_token us) (Some (place.Operand (Argument ∷ st)))
        → Refuses (head_token us) (Some (Opened st))
    here [] m r = tt
    here (s ∷ us) m r = opened_as st s.token m ∙ r

    go : (before : List TokenAtColumn) → ts ≡ before ++ rest
        → Ends st (Stops kind rest) (walk (Some (place.Operand (Argument ∷ st))) (tokens_without_values before))
        → Walks (Ends st (Stops kind rest)) (Some (Opened st)) ts rest
    go [] e r =
        record {
          before = [];
          all = e;
          ends = λ k. here rest (subst (λ l. TokenIsNotSign CloseParenthesis
              (head_token l)) e n) (r k);
        }
    go (s ∷ before) e r =
        let same = opened_as st s.token (subst (λ l. TokenIsNotSign CloseParenthesis (head_token l)) e n) in
        record { before = s ∷ before; all = e; ends = subst (λ q. Ends st (Stops kind rest) (walk q (tokens_without_values before))) (sym same) r }

pub walked : {s : ParserState} {o : ExpressionReadOutcome} → ParserStateReadsAs s o → IsWalked s o
walked (reading.number {n = n} {c = c} {ts = ts}) = λ st.
    walks_next (number_token_at_column n c) (walks_here (after_goes st (head_token ts)))
walked (reading.map {name = name} {c = c} {ts = ts} f) = λ st.
    walks_next (name_token_at_column name c) (walks_here (named_goes st (head_token ts) f))
walked (reading.moved {name = name} {c = c} {d = d} {ts = ts}) =
    walked_moved name c d ts (reading.read_both_offsets ts) (offsets_part ts)
walked (reading.unknown e) = λ st. walks_here (λ k. absurd (let n : ⊥ = cc in n))
walked (reading.called {o = Got a rest} f e r) = absurd (sound r)
walked (reading.called {name = name} {c = c} {d = d} {o = Stops kind rest} f e r) = λ st.
    walks_next (name_token_at_column name c) (walks_next (sign_token_at_column OpenParenthesis d) (walked r st))
walked (reading.called {name = name} {c = c} {d = d} {ts = ts} {o = GotAll xs rest} f e r) =
    go (accepts_argument_count f (argument_count xs)) (walked r)
  where
    opens : List TokenAtColumn
    opens = name_token_at_column name c ∷ sign_token_at_column OpenParenthesis d ∷ []

    go : (b : Bool) → IsWalked (Called ts) (GotAll xs rest)
        → IsWalked (Operand (opens ++ ts)) (outcome_of_checked_call b f xs (opens ++ ts) rest)
    go true w = λ st.
        walks_next (name_token_at_column name c)
        (walks_next (sign_token_at_column OpenParenthesis d)
        (walks_then (w st) (λ q e. walks_here (subst (GoesAs st (head_token rest)) (sym e)
        (after_goes st (head_token rest))))))
    go false w = λ st. walks_here (λ k. absurd (let n : ⊥ = cc in n))
walked (reading.negated {o = GotAll xs rest} r) = absurd (sound r)
walked (reading.negated {c = c} r) = λ st. walks_next (sign_token_at_column Minus c) (walked r st)
walked (reading.not {o = GotAll xs rest} r) = absurd (sound r)
walked (reading.not {c = c} r) = λ st. walks_next (sign_token_at_column Exclamation c) (walked r st)
walked (reading.inside {c = c} {ts = ts} {o = Got a rest} r) = walked_closed c ts a (look rest) (walked r)
walked (reading.inside {o = GotAll xs rest} r) = absurd (sound r)
walked (reading.inside {c = c} {o = Stops kind rest} r) =
    let h = walked r in
    λ st. walks_next (sign_token_at_column OpenParenthesis c) (h.1 (Parenthesis ∷ st))
walked (nothing {ts = ts} b) = λ st. walks_here (λ k. begins_refused st (head_token ts) b)
walked (whole r m) = λ st. walks_then (walked r st) (walked m st)
walked stopped = λ st q g. walks_here g
walked (done e) = λ st q g. walks_here g
walked (more {k = k} {s = s} {o = Got b us} op e r m) = λ st q g.
    let on = g ∙ operator_after st s.token op (below_some k (operator_of_token s.token) op e).0 in
    walks_next s (walks_from on (walks_then (walked r st) (walked m st)))
walked (more {o = GotAll xs us} op e r m) = absurd (sound r)
walked (more {k = k} {s = s} op e r stopped) = λ st q g.
    walks_next s (walks_from (g ∙ operator_after st s.token op (below_some k (operator_of_token s.token) op e).0) (walked r st))
walked (expression {ts = ts} {o = o} r m) =
    let n = walked m (ends_whole ts o (sound r)) in
    (n.0, λ st. walks_then (walked r st) (n.1 st))
walked unread = λ e. (tt, λ st q g. walks_here g)
walked (unchosen {ts = ts} n) = λ e. (quiet ts e n, λ st q g. walks_here g)
walked (asked {c = c} r m) =
    let h = walked r in
    let n = walked m h.0 in
    λ e. (
      n.0,
      λ st q g. walks_next (sign_token_at_column Question c)
          (walks_from g (walks_then (h.1 (Choosing ∷ st)) (n.1 st))),
    )
walked unasked = λ i. (tt, λ st q g. walks_here g)
walked (no_colon {ts = ts} n) = λ i. (
  tt,
  λ st q g. walks_here (λ k. quiet_refused (Choosing ∷ st) (head_token ts) q i g
      (choosing_refused st (head_token ts) n)),
)
walked (otherwise {o = GotAll xs rest} r) = absurd (sound r)
walked (otherwise {c = c} r) =
    let h = walked r in
    λ i. (h.0, λ st q g. walks_next (sign_token_at_column Colon c) (walks_from g (h.1 st)))
walked (reading.none {c = c}) = λ st. walks_next (sign_token_at_column CloseParenthesis c) (walks_here refl)
walked (reading.some {o = Got a rest} n r) = absurd (sound r)
walked (reading.some {o = GotAll xs rest} n r) = λ st.
    let w = walked r st in
    record { before = w.before; all = w.all; ends = opened_walk st (tokens_without_values w.before) w.ends }
walked (reading.some {ts = ts} {o = Stops kind rest} n r) = λ st. opened_refused st kind ts rest n (walked r st)
walked (arguments r m) =
    let h = walked r in
    let n = walked m h.0 in
    λ st. walks_then (h.1 (Argument ∷ st)) (n st)
walked halted = λ i st q g. walks_here g
walked (reading.last {c = c}) = λ i st q g. walks_next (sign_token_at_column CloseParenthesis c)
    (walks_from g (walks_here refl))
walked (reading.another {o = Got b rest} r) = absurd (sound r)
walked (reading.another {c = c} r) = λ i st q g.
    walks_next (sign_token_at_column Comma c) (walks_from g (walked r st))
walked (unended {ts = ts} n m) = λ i st q g.
    walks_here (λ k. quiet_refused (Argument ∷ st) (head_token ts) q i g (argument_refused st (head_token ts) n m))
