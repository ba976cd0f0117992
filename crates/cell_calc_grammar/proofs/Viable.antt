-- The tokens that are read before an error have a shape that can be continued.
use Rattle.std.proofs.Common.{◌≡◌, ℕ, zero, suc, pred, ◌<◌, ◌≤◌, ℤ, pos, List, [], ◌∷◌, ◌++◌, Some, None, Ok, Err, Bool, true, false, refl, sym, ap, ◌∙◌, subst, arith, append_assoc, append-nil, ◌⊎◌, inl, inr}
use Rattle.std.specs.Prelude.{nat_le, codes}
use Rattle.std.proofs.lemmas.Bool.Decides.{nat_tests}
use Rattle.cell_calc_grammar.specs.declared.calc_fault.CalcKind.{CalcKind}
use Rattle.cell_calc_grammar.specs.declared.calc_fault.CalcKind.TheVariants.{Expected, UnknownFunction, Arguments as BadArguments, BadOffset}
use Rattle.cell_calc_grammar.specs.declared.function.Function.{Function}
use Rattle.cell_calc_grammar.specs.declared.function.Function.TheVariants.{Null, Eval}
use Rattle.cell_calc_grammar.specs.declared.token.TokenAtColumn.{TokenAtColumn}
use Rattle.cell_calc_grammar.specs.declared.token.Sign.TheVariants.{Minus, Exclamation, Question, Colon, OpenParenthesis, CloseParenthesis, OpenBracket, CloseBracket, Comma}
use Rattle.cell_calc_grammar.specs.Function.{function_with_name, accepts_argument_count}
use Rattle.cell_calc_grammar.specs.Grammar as grammar
use Rattle.cell_calc_grammar.specs.Grammar.{TokensDenoteOffset, TokensDenoteRowAndColumnOffsets, Stands, IsExpression, AreCalled, AreArguments, below, joined, choice}
use Rattle.cell_calc_grammar.specs.Operator.{right_operand_level, top_operator_level}
use Rattle.cell_calc_grammar.specs.TokensRead as reading
use Rattle.cell_calc_grammar.specs.TokensRead.{ExpressionPartReading, tokens_after_first, read_part_then_next, distance_reading_of_first_token, distance_reading, offset_reading_of_distance, offset_reading_of_first_token, offset_reading, comma_reading_of_first_token, closing_bracket_reading_of_token, second_offset_and_bracket_reading, ExpressionReadOutcome, Got, GotAll, Stops, ParserState, Operand, Whole, More, Expression, Choice, AfterQuestion, Called, Arguments, Onward, operator_below_level, first_continuing_operator, outcome_after_parenthesis, outcome_in_parentheses, outcome_after_operator, outcome_after_choice, outcome_after_offsets, outcome_of_checked_call, call, outcome_with_argument, ParserStateReadsAs, nothing, whole, stopped, more, expression, unread, asked, unasked, no_colon, otherwise, arguments, halted, unended}
use Rattle.cell_calc_grammar.specs.Shape.{tokens_without_values}
use Rattle.cell_calc_grammar.specs.Tree.{Tree}
use Rattle.cell_calc_grammar.specs.Term.{Term, ArgumentTerms, NoTrees, Negated, Not, argument_count, map_name_at_column}
use Rattle.cell_calc_grammar.specs.Token.{number_token_at_column, name_token_at_column, sign_token_at_column}
use Rattle.cell_calc_grammar.specs.Token.{head_token}
use Rattle.cell_calc_grammar.proofs.Sound.{raise, next_zero, Looks, ASign, look, offset_of, NoNumber, none, far, NoOffsets, first, no_comma, second, no_bracket, IsPart, AreBoth, offsets_part, goes_joined, IsSound, sound}
use Rattle.cell_calc_grammar.proofs.Walk.{shape_append}

-- the tokens end after the opening bracket of a map, where an offset is expected
abbrev pub IsOpen : List TokenAtColumn → Type 0
IsOpen before =
    (front inner rest : List TokenAtColumn) × (name : List ℕ) × (c d : ℕ)
    × (before ≡ front ++ name_token_at_column name c ∷ sign_token_at_column OpenBracket d ∷ inner)
    × NoOffsets BadOffset inner rest

-- the tokens from the place of an error up to the token that shows it
abbrev pub IsSegment : CalcKind → (before seg : List TokenAtColumn) → Type 0
IsSegment Expected before seg = seg ≡ []
IsSegment UnknownFunction before seg =
    (name : List ℕ) × (c d : ℕ) × (seg ≡ name_token_at_column name c ∷ sign_token_at_column OpenParenthesis d ∷ [])
    × (function_with_name name ≡ None)
IsSegment BadArguments before seg =
    (name : List ℕ) × (f : Function) × (xs : ArgumentTerms) × (c d : ℕ) × (inside : List TokenAtColumn)
    × (seg ≡ name_token_at_column name c ∷ sign_token_at_column OpenParenthesis d ∷ inside)
    × (function_with_name name ≡ Some f) × AreCalled inside xs × (accepts_argument_count f (argument_count xs) ≡ false)
IsSegment BadOffset before seg = (n c : ℕ) × (seg ≡ number_token_at_column n c ∷ []) × (255 < n) × IsOpen before
IsSegment _ before seg = ⊥

-- with other names and numbers, the tokens up to the one that shows the error can continue to tokens with property P
pub record Viable (P : List TokenAtColumn → Type 0) (ts : List TokenAtColumn) (kind : CalcKind)
    (rest : List TokenAtColumn) : Type 0 where
  pub before : List TokenAtColumn
  pub seg : List TokenAtColumn
  pub more : List TokenAtColumn
  pub us : List TokenAtColumn
  pub after : List TokenAtColumn
  pub all : ts ≡ before ++ rest
  pub front : rest ≡ seg ++ more
  pub reported : IsSegment kind before seg
  pub same : tokens_without_values us ≡ tokens_without_values (before ++ seg)
  pub goes : P (us ++ after)

segment_after : (kind : CalcKind) (f before seg : List TokenAtColumn) → IsSegment kind before seg
    → IsSegment kind (f ++ before) seg
segment_after BadOffset f before seg (n, c, e, over, (front, inner, rest, name, d, d', all, stop)) =
    let opens : List TokenAtColumn = name_token_at_column name d ∷ sign_token_at_column OpenBracket d' ∷ inner in
    (n, c, e, over, (f ++ front, inner, rest, name, d, d', ap (λ l. f ++ l) all ∙ sym (append_assoc f front opens), stop))
segment_after _ f before seg t = t

-- tokens that can continue also can between other tokens
viable_between : (P Q : List TokenAtColumn → Type 0) (f g ends : List TokenAtColumn) {ts : List TokenAtColumn} {kind : CalcKind} {rest : List TokenAtColumn}
    → tokens_without_values g ≡ tokens_without_values f → ((l : List TokenAtColumn) → P l → Q (g ++ (l ++ ends)))
    → Viable P ts kind rest
    → Viable Q (f ++ ts) kind rest
viable_between P Q f g ends {kind = kind} {rest = rest} e w v = record {
  before = f ++ v.before;
  seg = v.seg;
  more = v.more;
  us = g ++ v.us;
  after = v.after ++ ends;
  all = ap (λ l. f ++ l) v.all ∙ sym (append_assoc f v.before rest);
  front = v.front;
  reported = segment_after kind f v.before v.seg v.reported;
  same = shape_append g v.us ∙ ap (λ l. l ++ tokens_without_values v.us) e ∙ ap (λ l. tokens_without_values f
      ++ l) v.same
      ∙ sym (shape_append f (v.before ++ v.seg)) ∙ ap tokens_without_values (sym (append_assoc f v.before v.seg));
  goes = simp append_assoc (simp append_assoc at (w (v.us ++ v.after) v.goes));
}

-- tokens that can continue also can after other tokens
viable_after : (P Q : List TokenAtColumn → Type 0) (f g : List TokenAtColumn) {ts : List TokenAtColumn}
    {kind : CalcKind}
    {rest : List TokenAtColumn}
    → tokens_without_values g ≡ tokens_without_values f → ((l : List TokenAtColumn) → P l → Q (g ++ l))
    → Viable P ts kind rest → Viable Q (f ++ ts) kind rest
viable_after P Q f g e w v = viable_between P Q f g [] e (λ l x. rw append-nil (w l x)) v

-- tokens of the same shape with other names and numbers can continue with the tokens after them
viable_made : (P : List TokenAtColumn → Type 0) (before seg rest us after : List TokenAtColumn)
    {ts : List TokenAtColumn} {kind : CalcKind}
    → ts ≡ before ++ (seg ++ rest) → IsSegment kind before seg
    → tokens_without_values us ≡ tokens_without_values (before ++ seg) → P (us ++ after)
    → Viable P ts kind (seg ++ rest)
viable_made P before seg rest us after e reported same h = record {
  before = before;
  seg = seg;
  more = rest;
  us = us;
  after = after;
  all = e;
  front = refl;
  reported = reported;
  same = same;
  goes = h;
}

-- if more is expected after the tokens that were read, they can continue
viable_front : (P : List TokenAtColumn → Type 0) (f after : List TokenAtColumn) {ts rest : List TokenAtColumn}
    → ts ≡ f ++ rest → P (f ++ after) → Viable P ts Expected rest
viable_front P f after {rest = rest} e h = viable_made P f [] rest f after e refl
    (ap tokens_without_values (sym (append-nil f))) h

-- tokens that were read can continue if the tokens after them can
viable_past : (Q : List TokenAtColumn → Type 0) (f : List TokenAtColumn) {ts us : List TokenAtColumn}
    {kind : CalcKind} {rest : List TokenAtColumn}
    → ts ≡ f ++ us → Viable (λ l. Q (f ++ l)) us kind rest → Viable Q ts kind rest
viable_past Q f {kind = kind} {rest = rest} e v =
    subst (λ l. Viable Q l kind rest) (sym e) (viable_after (λ l. Q (f ++ l)) Q f f refl (λ l x. x) v)

zero_offset : TokensDenoteOffset (number_token_at_column 0 0 ∷ []) (pos 0)
zero_offset = TokensDenoteOffset.plain (omega arith)

pub zero_expression : IsExpression (number_token_at_column 0 0 ∷ []) (Tree.Number 0)
zero_expression =
    grammar.IsExpression.plain (raise zero top_operator_level (number_token_at_column 0 0
    ∷ []) (Tree.Number 0) (omega arith) grammar.number)

-- a number continues the tokens that were read
viable_number : (P : List TokenAtColumn → Type 0) (front l : List TokenAtColumn) {ts : List TokenAtColumn}
    {kind : CalcKind}
    {rest : List TokenAtColumn}
    → NoNumber kind rest → (kind ≡ BadOffset → IsOpen front) → ts ≡ front ++ rest
    → P ((front ++ number_token_at_column 0 0 ∷ []) ++ l)
    → Viable P ts kind rest
viable_number P front l (none n) at e h =
    viable_front P front (number_token_at_column 0 0 ∷ l) e (subst P (append_assoc front (number_token_at_column 0 0
    ∷ []) l) h)
viable_number P front l (far {n = n} {c = c} {ts = us} g) at e h =
    let same = shape_append front (number_token_at_column 0 0 ∷ [])
    ∙ sym (shape_append front (number_token_at_column n c ∷ [])) in
    viable_made P front (number_token_at_column n c ∷ []) us (front ++ number_token_at_column 0 0 ∷ []) l e
    (n, c, refl, g, at refl) same h

abbrev SomeOf : ℕ → List TokenAtColumn → Type 0
SomeOf k l = (a : Term) × Stands k l a

abbrev pub SomeExpression : List TokenAtColumn → Type 0
SomeExpression l = (a : Term) × IsExpression l a

abbrev SomeArguments : List TokenAtColumn → Type 0
SomeArguments l = (xs : ArgumentTerms) × AreArguments l xs

-- the tokens that are read from a state can continue
abbrev pub IsViable : ParserState → ExpressionReadOutcome → Type 0
IsViable s (Got a rest) = Unit {0}
IsViable s (GotAll xs rest) = Unit {0}
IsViable (Operand ts) (Stops kind rest) = Viable (SomeOf zero) ts kind rest
IsViable (Whole k ts) (Stops kind rest) = Viable (SomeOf k) ts kind rest
IsViable (More k (Got a ts)) (Stops kind rest) =
    (j : ℕ) (front : List TokenAtColumn) → j ≤ k → first_continuing_operator (pred j) ts ≡ None → Stands j front a → Viable (λ l. SomeOf k (front ++ l)) ts kind rest
IsViable (Expression ts) (Stops kind rest) = Viable SomeExpression ts kind rest
IsViable (Choice (Got a ts)) (Stops kind rest) = (front : List TokenAtColumn) → Stands top_operator_level front a → Viable (λ l. SomeExpression (front ++ l)) ts kind rest
IsViable (AfterQuestion x (Got a ts)) (Stops kind rest) =
    (front us : List TokenAtColumn) (c : ℕ) → Stands top_operator_level front x → IsExpression us a → Viable (λ l. SomeExpression (front ++ sign_token_at_column Question c ∷ (us ++ l))) ts kind rest
IsViable (Called ts) (Stops kind rest) = Viable SomeArguments ts kind rest
IsViable (Arguments ts) (Stops kind rest) = Viable SomeArguments ts kind rest
IsViable (Onward (Got a ts)) (Stops kind rest) = (front : List TokenAtColumn) → IsExpression front a → Viable (λ l. SomeArguments (front ++ l)) ts kind rest
IsViable s o = Unit {0}

abbrev SomeOffsets : List TokenAtColumn → Type 0
SomeOffsets l = (down right : ℤ) × TokensDenoteRowAndColumnOffsets l down right

-- if reading offsets stops, a number continues the tokens, or other tokens do if more is expected
offsets_go_on : {kind : CalcKind} {front rest : List TokenAtColumn} → NoOffsets kind front rest
    → ((l : List TokenAtColumn) × SomeOffsets ((front ++ number_token_at_column 0 0 ∷ []) ++ l) × NoNumber kind rest)
    ⊎ ((kind ≡ Expected) × (l : List TokenAtColumn) × SomeOffsets (front ++ l))
offsets_go_on (first (f, s, q, n)) =
    let more : List TokenAtColumn = sign_token_at_column Comma 0 ∷ number_token_at_column 0 0
    ∷ sign_token_at_column CloseBracket 0 ∷ [] in
    inl (more, (_, _, grammar.offsets 0 0 (offset_of s 0 0 (omega arith)) zero_offset), n)
offsets_go_on (second {front = front} {mid = mid} {down = down} c o (f, s, q, n)) =
    let number : List TokenAtColumn = number_token_at_column 0 0 ∷ [] in
    let ends : List TokenAtColumn = sign_token_at_column CloseBracket 0 ∷ [] in
    let both = grammar.offsets c 0 o (offset_of s 0 0 (omega arith)) in
    let same = ap (λ l. l ++ ends) (append_assoc front (sign_token_at_column Comma c ∷ mid) number)
    ∙ append_assoc front (sign_token_at_column Comma c ∷ (mid ++ number)) ends in
    inl (ends, (down, f 0, subst (λ l. TokensDenoteRowAndColumnOffsets l down (f 0)) (sym same) both), n)
offsets_go_on (no_comma o n) =
    inr (refl, sign_token_at_column Comma 0 ∷ number_token_at_column 0 0 ∷ sign_token_at_column CloseBracket 0 ∷ [], (_, _, grammar.offsets 0 0 o zero_offset))
offsets_go_on (no_bracket {front = front} {mid = mid} {down = down} {right = right} c o i n) =
    let same = append_assoc front (sign_token_at_column Comma c ∷ mid) (sign_token_at_column CloseBracket 0 ∷ []) in
    inr (refl, sign_token_at_column CloseBracket 0 ∷ [], (down, right, subst (λ l. TokensDenoteRowAndColumnOffsets l down right) (sym same) (grammar.offsets c 0 o i)))

viable_moved : (name : List ℕ) (c d : ℕ) (ts : List TokenAtColumn) (p : ExpressionPartReading (ℤ × ℤ))
    → IsPart AreBoth NoOffsets ts p
    → IsViable (Operand (name_token_at_column name c ∷ sign_token_at_column OpenBracket d ∷ ts))
    (outcome_after_offsets name c p)
viable_moved name c d ts (Ok x) h = tt
viable_moved name c d ts (Err (kind, rest)) (front, e, stop) = go (offsets_go_on stop)
  where
    opens : List TokenAtColumn
    opens = name_token_at_column name c ∷ sign_token_at_column OpenBracket d ∷ []

    made : (l : List TokenAtColumn) → SomeOffsets l → SomeOf zero (opens ++ l)
    made l h = (Tree.Map (map_name_at_column name c) h.0 h.1, grammar.moved h.2)

    go : ((l : List TokenAtColumn) × SomeOffsets ((front ++ number_token_at_column 0 0 ∷ []) ++ l) × NoNumber kind rest)
        ⊎ ((kind ≡ Expected) × (l : List TokenAtColumn) × SomeOffsets (front ++ l))
        → Viable (SomeOf zero) (opens ++ ts) kind rest
    go (inl (l, h, n)) =
        let at : kind ≡ BadOffset → IsOpen (opens ++ front) = λ k.
        ([], front, rest, name, c, d, refl, subst (λ x. NoOffsets x front rest) k stop) in
        viable_number (SomeOf zero) (opens ++ front) l n at (ap (λ l. opens ++ l) e) (made _ h)
    go (inr (k, l, h)) =
        subst (λ x. Viable (SomeOf zero) (opens ++ ts) x rest) (sym k)
        (viable_front (SomeOf zero) (opens ++ front) l (ap (λ l. opens ++ l) e) (made _ h))

eval_takes : {ts : List TokenAtColumn} {xs : ArgumentTerms} → AreArguments ts xs
    → accepts_argument_count Eval (argument_count xs) ≡ true
eval_takes (grammar.last c s) = refl
eval_takes (grammar.another {xs = xs} c s q) = go (argument_count xs)
  where
    go : (n : ℕ) → nat_le 1 (suc n) ≡ true
    go n = grind (arith, nat_tests)

position_call_of_three_tokens : (c d : ℕ) (l : List TokenAtColumn) → SomeArguments l → SomeOf zero (name_token_at_column (codes "eval") c ∷ sign_token_at_column OpenParenthesis d ∷ l)
position_call_of_three_tokens c d l (xs, h) = (
  Tree.Call Eval xs,
  grammar.called Eval refl (eval_takes h)
      (grammar.some h),
)

-- some function can be called with the arguments
renamed : (c d : ℕ) (l : List TokenAtColumn) (xs : ArgumentTerms) → AreCalled l xs
    → (name : List ℕ) × SomeOf zero (name_token_at_column name c ∷ sign_token_at_column OpenParenthesis d ∷ l)
renamed c d l xs grammar.none = (codes "null", (Tree.Call Null NoTrees, grammar.called Null refl refl grammar.none))
renamed c d l xs (grammar.some h) = (codes "eval", position_call_of_three_tokens c d l (xs, h))

-- an expression in parentheses is an operand
closing : (c d : ℕ) (l : List TokenAtColumn) → SomeExpression l
    → SomeOf zero (sign_token_at_column OpenParenthesis c ∷ (l ++ sign_token_at_column CloseParenthesis d ∷ []))
closing c d l h = (h.0, grammar.inside d h.1)

viable_closed : (c : ℕ) (ts : List TokenAtColumn) (a : Term) {rest : List TokenAtColumn} → Looks rest → IsSound (Expression ts) (Got a rest)
    → IsViable (Operand (sign_token_at_column OpenParenthesis c ∷ ts))
    (outcome_after_parenthesis (head_token rest) a rest)
viable_closed c ts a (ASign CloseParenthesis d rest) h = tt
viable_closed c ts a _ h =
    viable_front (SomeOf zero) (sign_token_at_column OpenParenthesis c ∷ h.0) (sign_token_at_column CloseParenthesis 0 ∷ []) (ap (λ l. sign_token_at_column OpenParenthesis c ∷ l) h.1)
    (closing c 0 h.0 (a, h.2))

pub viable : {s : ParserState} {o : ExpressionReadOutcome} → ParserStateReadsAs s o → IsViable s o
viable (reading.moved {name = name} {c = c} {d = d} {ts = ts}) =
    viable_moved name c d ts (reading.read_both_offsets ts) (offsets_part ts)
viable (reading.unknown {name = name} {c = c} {d = d} {ts = ts} e) =
    let call : List TokenAtColumn = name_token_at_column (codes "null") c ∷ sign_token_at_column OpenParenthesis d
    ∷ [] in
    viable_made (SomeOf zero) [] (name_token_at_column name c ∷ sign_token_at_column OpenParenthesis d ∷ []) ts call
    (sign_token_at_column CloseParenthesis 0 ∷ []) refl
    (name, c, d, refl, e) refl (Tree.Call Null NoTrees, grammar.called Null refl refl grammar.none)
viable (reading.called {o = Got a rest} f e r) = absurd (sound r)
viable (reading.called {name = name} {c = c} {d = d} {o = Stops kind rest} f e r) =
    viable_after SomeArguments (SomeOf zero) (name_token_at_column name c ∷ sign_token_at_column OpenParenthesis d ∷ [])
    (name_token_at_column (codes "eval") c ∷ sign_token_at_column OpenParenthesis d ∷ [])
    refl (position_call_of_three_tokens c d) (viable r)
viable (reading.called {name = name} {c = c} {d = d} {ts = ts} {o = GotAll xs rest} f e r) =
    go (sound r) (accepts_argument_count f (argument_count xs)) refl
  where
    opens : List TokenAtColumn
    opens = name_token_at_column name c ∷ sign_token_at_column OpenParenthesis d ∷ []

    go : IsSound (Called ts) (GotAll xs rest) → (b : Bool) → accepts_argument_count f (argument_count xs) ≡ b
        → IsViable (Operand (opens ++ ts)) (outcome_of_checked_call b f xs (opens ++ ts) rest)
    go h true a = tt
    go h false a =
        let other = renamed c d h.0 xs h.2 in
        let call : List TokenAtColumn = name_token_at_column other.0 c ∷ sign_token_at_column OpenParenthesis d ∷ h.0 in
        subst (λ l. Viable (SomeOf zero) (opens ++ ts) BadArguments (opens ++ l)) (sym h.1)
        (viable_made (SomeOf zero) [] (opens ++ h.0) rest call [] (ap (λ l. opens ++ l) h.1)
        (name, f, xs, c, d, h.0, refl, e, h.2, a) refl
        (subst (SomeOf zero) (sym (append-nil call)) other.1))
viable (reading.negated {o = GotAll xs rest} r) = absurd (sound r)
viable (reading.negated {c = c} {o = Stops kind rest} r) =
    viable_after (SomeOf zero) (SomeOf zero) (sign_token_at_column Minus c ∷ []) (sign_token_at_column Minus c
    ∷ []) refl
    (λ l x. (Negated x.0, grammar.negated x.1)) (viable r)
viable (reading.not {o = GotAll xs rest} r) = absurd (sound r)
viable (reading.not {c = c} {o = Stops kind rest} r) =
    viable_after (SomeOf zero) (SomeOf zero) (sign_token_at_column Exclamation c
    ∷ []) (sign_token_at_column Exclamation c ∷ []) refl
    (λ l x. (Not x.0, grammar.not x.1)) (viable r)
viable (reading.inside {c = c} {ts = ts} {o = Got a rest} r) = viable_closed c ts a (look rest) (sound r)
viable (reading.inside {o = GotAll xs rest} r) = absurd (sound r)
viable (reading.inside {c = c} {o = Stops kind rest} r) =
    let open_at : List TokenAtColumn = sign_token_at_column OpenParenthesis c ∷ [] in
    viable_between SomeExpression (SomeOf zero) open_at open_at (sign_token_at_column CloseParenthesis 0 ∷ []) refl (closing c 0) (viable r)
viable (nothing b) = viable_front (SomeOf zero) [] (number_token_at_column 0 0 ∷ []) refl (_, grammar.number)
viable (whole {k = k} {p = Stops kind rest} r stopped) =
    viable_after (SomeOf zero) (SomeOf k) [] [] refl (λ l x. (x.0, raise zero k l x.0 (omega arith) x.1)) (viable r)
viable (whole {k = k} {o = Got a us} {p = Stops kind rest} r m) =
    let h = sound r in
    viable_past (SomeOf k) h.0 h.1 (viable m zero h.0 (omega arith) (next_zero us) h.2)
viable (more {k = k} {s = s} {ts = ts} {o = Got b us} {p = Stops kind rest} op e r m) = λ j front le stop st.
    let h = sound r in
    let both = goes_joined j k s ts op e stop st h.2 in
    let n = viable m (suc (right_operand_level op)) (front ++ s ∷ h.0) both.1 h.3 both.0 in
    let P : List TokenAtColumn → Type 0 = λ l. SomeOf k ((front ++ s ∷ h.0) ++ l) in
    viable_past (λ l. SomeOf k (front ++ l)) (s ∷ h.0) (ap (λ l. s ∷ l) h.1)
    (viable_after P (λ l. SomeOf k (front ++ s ∷ (h.0 ++ l))) [] [] refl
    (λ l x. subst (SomeOf k) (append_assoc front (s ∷ h.0) l) x) n)
viable (more {o = GotAll xs us} op e r m) = absurd (sound r)
viable (more {k = k} {s = s} {ts = ts} {p = Stops kind rest} op e r stopped) = λ j front le stop st.
    viable_after (SomeOf (right_operand_level op)) (λ l. SomeOf k (front ++ l)) (s ∷ []) (s ∷ []) refl
    (λ l x. let both = goes_joined j k s ts op e stop st x.1 in
    (_, raise (suc (right_operand_level op)) k (front ++ s ∷ l) _ both.1 both.0)) (viable r)
viable (expression {p = Stops kind rest} r unread) =
    viable_after (SomeOf top_operator_level) SomeExpression [] [] refl (λ l x. (x.0, grammar.IsExpression.plain x.1))
    (viable r)
viable (expression {o = Got a us} {p = Stops kind rest} r m) =
    let h = sound r in
    viable_past SomeExpression h.0 h.1 (viable m h.0 h.2)
viable (asked {c = c} {o = Got a us} {p = Stops kind rest} r m) = λ front st.
    let h = sound r in
    viable_past (λ l. SomeExpression (front ++ l)) (sign_token_at_column Question c
    ∷ h.0) (ap (λ l. sign_token_at_column Question c ∷ l) h.1)
    (viable m front h.0 c st h.2)
viable (asked {o = GotAll xs us} r m) = absurd (sound r)
viable (asked {c = c} {p = Stops kind rest} r unasked) = λ front st.
    let ask : List TokenAtColumn = sign_token_at_column Question c ∷ [] in
    viable_between SomeExpression (λ l. SomeExpression (front ++ l)) ask ask (sign_token_at_column Colon 0 ∷ number_token_at_column 0 0 ∷ []) refl
    (λ l y. (_, choice c 0 st y.1 zero_expression)) (viable r)
viable (no_colon {ts = ts} n) = λ front us c st ex.
    let P : List TokenAtColumn → Type 0 = λ l. SomeExpression (front ++ sign_token_at_column Question c ∷ (us ++ l)) in
    viable_front P [] (sign_token_at_column Colon 0 ∷ number_token_at_column 0 0
    ∷ []) refl (_, choice c 0 st ex zero_expression)
viable (otherwise {o = GotAll xs us} r) = absurd (sound r)
viable (otherwise {c = d} {o = Stops kind rest} r) = λ front us c st ex.
    let P : List TokenAtColumn → Type 0 = λ l. SomeExpression (front ++ sign_token_at_column Question c ∷ (us ++ l)) in
    viable_after SomeExpression P (sign_token_at_column Colon d ∷ []) (sign_token_at_column Colon d
    ∷ []) refl (λ l y. (_, choice c d st ex y.1))
    (viable r)
viable (reading.some {o = Stops kind rest} e r) = viable r
viable (arguments {o = Got a us} {p = Stops kind rest} r m) =
    let h = sound r in
    viable_past SomeArguments h.0 h.1 (viable m h.0 h.2)
viable (arguments {o = GotAll xs us} r m) = absurd (sound r)
viable (arguments {p = Stops kind rest} r halted) =
    viable_between SomeExpression SomeArguments [] [] (sign_token_at_column CloseParenthesis 0 ∷ []) refl (λ l x. (_, grammar.last 0 x.1)) (viable r)
viable (reading.another {o = Got b rest} r) = absurd (sound r)
viable (reading.another {c = c} {o = Stops kind rest} r) = λ front ex.
    viable_after SomeArguments (λ l. SomeArguments (front ++ l)) (sign_token_at_column Comma c
    ∷ []) (sign_token_at_column Comma c ∷ []) refl
    (λ l x. (_, grammar.another c ex x.1)) (viable r)
viable (unended n m) = λ front ex.
    viable_front (λ l. SomeArguments (front ++ l)) [] (sign_token_at_column CloseParenthesis 0
    ∷ []) refl (_, grammar.last 0 ex)
viable _ = tt
