-- The tokens that are read as an expression stand for it.
use Rattle.std.proofs.Common.{◌≡◌, ℕ, zero, suc, pred, ◌<◌, ◌≤◌, ℤ, pos, neg_ℤ, List, [], ◌∷◌, ◌++◌, Option, Some, None, Ok, Err, Bool, true, false, refl, sym, ap, ◌∙◌, subst, arith, append_assoc, append-nil, ◌⊎◌, inl, inr}
use Rattle.std.specs.Prelude.{nat_le, if◌then◌else◌}
use Rattle.std.proofs.lemmas.Bool.Decides.{nat_tests}
use Rattle.cell_calc_grammar.specs.declared.calc_fault.CalcKind.{CalcKind}
use Rattle.cell_calc_grammar.specs.declared.calc_fault.CalcKind.TheVariants.{Expected, BadOffset}
use Rattle.cell_calc_grammar.specs.declared.operator.Operator.{Operator}
use Rattle.cell_calc_grammar.specs.declared.token.TokenAtColumn.{TokenAtColumn}
use Rattle.cell_calc_grammar.specs.declared.token.Sign.{Sign}
use Rattle.cell_calc_grammar.specs.declared.token.Sign.TheVariants.{Plus, Minus, Exclamation, Question, Colon, OpenParenthesis, CloseParenthesis, OpenBracket, CloseBracket, Comma}
use Rattle.cell_calc_grammar.specs.declared.token.Token.{Token}
use Rattle.cell_calc_grammar.specs.declared.token.Token.TheVariants as token
use Rattle.cell_calc_grammar.specs.Function.{accepts_argument_count}
use Rattle.cell_calc_grammar.specs.Grammar as grammar
use Rattle.cell_calc_grammar.specs.Grammar.{TokensDenoteOffset, TokensDenoteRowAndColumnOffsets, Stands, IsExpression, AreCalled, AreArguments, below, joined, choice}
use Rattle.cell_calc_grammar.specs.Operator.{operator_of_token, right_operand_level, top_operator_level}
use Rattle.cell_calc_grammar.specs.TokensRead as reading
use Rattle.cell_calc_grammar.specs.TokensRead.{ExpressionPartReading, tokens_after_first, read_part_then_next, distance_reading_of_first_token, distance_reading, offset_reading_of_distance, offset_reading_of_first_token, offset_reading, comma_reading_of_first_token, closing_bracket_reading_of_token, second_offset_and_bracket_reading, ExpressionReadOutcome, Got, GotAll, Stops, ParserState, Operand, Whole, More, Expression, Choice, AfterQuestion, Called, Arguments, Onward, operator_below_level, first_continuing_operator, TokenIsNotSign, TokenShowsMapWithoutOffsets, TokenBeginsNoOperand, outcome_after_minus, outcome_after_not_sign, outcome_after_parenthesis, outcome_in_parentheses, outcome_after_operator, outcome_after_choice, outcome_after_offsets, outcome_of_checked_call, call, outcome_with_argument, ParserStateReadsAs, nothing, whole, stopped, done, more, expression, unread, unchosen, asked, unasked, no_colon, otherwise, arguments, halted, unended}
use Rattle.cell_calc_grammar.specs.Term.{Term, Binary, argument_count}
use Rattle.cell_calc_grammar.specs.Token.{number_token_at_column, name_token_at_column, sign_token_at_column}
use Rattle.cell_calc_grammar.specs.Token.{head_token}

-- an expression of one level is also an expression of each level above
pub raise : (j k : ℕ) (ts : List TokenAtColumn) (a : Term) → j ≤ k → Stands j ts a → Stands k ts a
raise j zero ts a le s = let e : j ≡ 0 = omega arith in subst (λ n. Stands n ts a) e s
raise j (suc k) ts a le s =
    let split : (j ≡ suc k) ⊎ (j ≤ k) = grind arith in
    elim split [ inl e ↦ subst (λ n. Stands n ts a) e s | inr l ↦ below (raise j k ts a l s) ]

pub below_some : (k : ℕ) (x : Option Operator) (op : Operator) → operator_below_level k x ≡ Some op → (x ≡ Some op) × (right_operand_level op < k)
below_some k None op e = absurd (let h : ⊥ = cc in h)
below_some k (Some op') op e = grind (arith, nat_tests)

pub above_none : (k : ℕ) (op : Operator) → operator_below_level k (Some op) ≡ None → k ≤ right_operand_level op
above_none k op e = grind (arith, nat_tests)

pub next_zero : (rest : List TokenAtColumn) → first_continuing_operator zero rest ≡ None
next_zero [] = refl
next_zero (s ∷ rest) = go (operator_of_token s.token)
  where
    go : (x : Option Operator) → operator_below_level zero x ≡ None
    go None = refl
    go (Some op) = grind (arith, nat_tests)

-- a list that begins with a token is that token and the tokens after it
pub front_is : (ts : List TokenAtColumn) (t : Token) → head_token ts ≡ Some t → (c : ℕ) × (ts ≡ record { token = t; column = c } ∷ tokens_after_first ts)
front_is [] t e = absurd (let h : ⊥ = cc in h)
front_is (s ∷ ts) t e =
    let same : s.token ≡ t = cc in
    (s.column, ap (λ u. let x : List TokenAtColumn = record { token = u; column = s.column } ∷ ts in x) same)

-- a list of tokens, by the kind of its first token
pub data Looks : List TokenAtColumn → Type 0 where
  NoToken : Looks []
  ANumber : (n c : ℕ) (ts : List TokenAtColumn) → Looks (number_token_at_column n c ∷ ts)
  AName : (name : List ℕ) (c : ℕ) (ts : List TokenAtColumn) → Looks (name_token_at_column name c ∷ ts)
  ASign : (s : Sign) (c : ℕ) (ts : List TokenAtColumn) → Looks (sign_token_at_column s c ∷ ts)

pub look : (ts : List TokenAtColumn) → Looks ts
look [] = NoToken
look (s ∷ ts) = go s.token s.column
  where
    go : (t : Token) (c : ℕ) → Looks (record { token = t; column = c } ∷ ts)
    go (token.Number n) c = ANumber n c ts
    go (token.Name name) c = AName name c ts
    go (token.Sign s) c = ASign s c ts

-- two parts before a rest are together one part before the rest
pub both_parts : {ts us : List TokenAtColumn} (front mid rest : List TokenAtColumn) → ts ≡ front ++ us
    → us ≡ mid ++ rest
    → ts ≡ (front ++ mid) ++ rest
both_parts front mid rest e f = e ∙ ap (λ l. front ++ l) f ∙ sym (append_assoc front mid rest)

-- the sign before the number of an offset, or none, and its effect on the number
pub data Signed : (ℕ → ℤ) → List TokenAtColumn → Type 0 where
  unsigned : Signed pos []
  minus : {c : ℕ} → Signed (λ n. neg_ℤ (pos n)) (sign_token_at_column Minus c ∷ [])
  plus : {c : ℕ} → Signed pos (sign_token_at_column Plus c ∷ [])

abbrev pub IsNoNumber : Option Token → Type 0
IsNoNumber (Some (token.Number n)) = ⊥
IsNoNumber _ = Unit {0}

-- no number, or one that is too large for an offset
pub data NoNumber : CalcKind → List TokenAtColumn → Type 0 where
  none : {ts : List TokenAtColumn} → IsNoNumber (head_token ts) → NoNumber Expected ts
  far : {n c : ℕ} {ts : List TokenAtColumn} → 255 < n → NoNumber BadOffset (number_token_at_column n c ∷ ts)

-- reading an offset stops after `front`, where the number of the offset should be
abbrev pub NoOffset : CalcKind → List TokenAtColumn → List TokenAtColumn → Type 0
NoOffset kind front rest =
    (f : ℕ → ℤ) × Signed f front × (front ≡ [] → TokenIsNotSign Minus (head_token rest)
    × TokenIsNotSign Plus (head_token rest))
    × NoNumber kind rest

-- reading offsets stops after `front`, before `rest`
pub data NoOffsets : CalcKind → List TokenAtColumn → List TokenAtColumn → Type 0 where
  first : {kind : CalcKind} {front rest : List TokenAtColumn} → NoOffset kind front rest → NoOffsets kind front rest
  no_comma : {front rest : List TokenAtColumn} {down : ℤ} → TokensDenoteOffset front down
      → TokenIsNotSign Comma (head_token rest)
      → NoOffsets Expected front rest
  second : {kind : CalcKind} {front mid rest : List TokenAtColumn} {down : ℤ} (c : ℕ) → TokensDenoteOffset front down
      → NoOffset kind mid rest
      → NoOffsets kind (front ++ sign_token_at_column Comma c ∷ mid) rest
  no_bracket : {front mid rest : List TokenAtColumn} {down right : ℤ} (c : ℕ) → TokensDenoteOffset front down
      → TokensDenoteOffset mid right
      → TokenIsNotSign CloseBracket (head_token rest) → NoOffsets Expected (front ++ sign_token_at_column Comma c
      ∷ mid) rest

-- the tokens of a part that is read satisfy P, and if reading stops, the tokens satisfy E
abbrev pub IsPart : {A : Type 0} → (List TokenAtColumn → A → Type 0) → (CalcKind → List TokenAtColumn
    → List TokenAtColumn → Type 0)
    → List TokenAtColumn → ExpressionPartReading A → Type 0
IsPart P E ts (Ok x) = (front : List TokenAtColumn) × (ts ≡ front ++ x.1) × P front x.0
IsPart P E ts (Err e) = (front : List TokenAtColumn) × (ts ≡ front ++ e.1) × E e.0 front e.1

abbrev pub AreBoth : List TokenAtColumn → ℤ × ℤ → Type 0
AreBoth ts x = TokensDenoteRowAndColumnOffsets ts x.0 x.1

pub offset_of : {f : ℕ → ℤ} {front : List TokenAtColumn} → Signed f front → (n c : ℕ) → n ≤ 255
    → TokensDenoteOffset (front ++ number_token_at_column n c ∷ []) (f n)
offset_of unsigned n c le = TokensDenoteOffset.plain le
offset_of minus n c le = grammar.minus le
offset_of plus n c le = grammar.plus le

-- reading a number after its sign gives an offset, or stops
signed_part : {f : ℕ → ℤ} {l us : List TokenAtColumn} → Signed f l → (ts : List TokenAtColumn) → ts ≡ l ++ us
    → (IsNoNumber (head_token us) → l ≡ [] → TokenIsNotSign Minus (head_token us) × TokenIsNotSign Plus (head_token us))
    → Looks us
    → IsPart TokensDenoteOffset NoOffset ts (offset_reading_of_distance f (distance_reading us))
signed_part {f = f} {l = l} s ts e q (ANumber n c us) = by (nat_le n 255) refl
  where
    by : (b : Bool) → nat_le n 255 ≡ b
        → IsPart TokensDenoteOffset NoOffset ts (offset_reading_of_distance f (if b then Ok (n, us) else Err (BadOffset, number_token_at_column n c ∷ us)))
    by true le =
        let small : n ≤ 255 = grind (arith, nat_tests) in (
          l ++ number_token_at_column n c ∷ [],
          both_parts l (number_token_at_column n c
              ∷ []) us e refl,
          offset_of s n c small,
        )
    by false le =
        let large : 255 < n = grind (arith, nat_tests) in
        (l, e, (f, s, λ k. (λ m. cc, λ m. cc), far large))
signed_part {f = f} {l = l} s ts e q _ = (l, e, (f, s, q tt, none tt))

offset_part : (ts : List TokenAtColumn) → IsPart TokensDenoteOffset NoOffset ts (offset_reading ts)
offset_part ts = go (look ts)
  where
    go : {us : List TokenAtColumn} → Looks us → IsPart TokensDenoteOffset NoOffset us (offset_reading us)
    go (ASign Minus c us) = signed_part minus (sign_token_at_column Minus c ∷ us) refl (λ _ k. absurd (let h : ⊥ = cc in h)) (look us)
    go (ASign Plus c us) = signed_part plus (sign_token_at_column Plus c
        ∷ us) refl (λ _ k. absurd (let h : ⊥ = cc in h)) (look us)
    go {us = us} _ = signed_part unsigned us refl (λ _ _. (λ k. cc, λ k. cc)) (look us)

pub offsets_part : (ts : List TokenAtColumn) → IsPart AreBoth NoOffsets ts (reading.read_both_offsets ts)
offsets_part ts = one (offset_reading ts) (offset_part ts)
  where
    bracket : (l mid : List TokenAtColumn) (down right : ℤ) (c : ℕ) {us : List TokenAtColumn} → ts ≡ (l ++ sign_token_at_column Comma c ∷ mid) ++ us
        → TokensDenoteOffset l down → TokensDenoteOffset mid right → Looks us
        → IsPart AreBoth NoOffsets ts (read_part_then_next (closing_bracket_reading_of_token (head_token us) us)
        (λ _ vs. Ok ((down, right), vs)))
    bracket l mid down right c e o i (ASign CloseBracket d us) = (
      l ++ sign_token_at_column Comma c ∷ (mid ++ sign_token_at_column CloseBracket d ∷ []),
      e
          ∙ simp append_assoc,
      grammar.offsets c d o i,
    )
    bracket l mid down right c e o i _ = (l ++ sign_token_at_column Comma c ∷ mid, e, no_bracket c o i (λ k. cc))

    two : (l : List TokenAtColumn) (down : ℤ) (c : ℕ) (us : List TokenAtColumn)
        → ts ≡ l ++ sign_token_at_column Comma c ∷ us → TokensDenoteOffset l down
        → (p : ExpressionPartReading ℤ) → IsPart TokensDenoteOffset NoOffset us p
        → IsPart AreBoth NoOffsets ts
        (read_part_then_next p (λ right vs. read_part_then_next (closing_bracket_reading_of_token (head_token vs) vs)
        (λ _ ws. Ok ((down, right), ws))))
    two l down c us e o (Ok (right, vs)) (mid, f, i) =
        bracket l mid down right c (both_parts l (sign_token_at_column Comma c ∷ mid) vs e (ap (λ l. sign_token_at_column Comma c ∷ l) f)) o i (look vs)
    two l down c us e o (Err x) (mid, f, h) =
        (l ++ sign_token_at_column Comma c ∷ mid, both_parts l (sign_token_at_column Comma c ∷ mid) x.1 e (ap (λ l. sign_token_at_column Comma c ∷ l) f), second c o h)

    comma : (l : List TokenAtColumn) (down : ℤ) {us : List TokenAtColumn} → ts ≡ l ++ us → TokensDenoteOffset l down
        → Looks us
        → IsPart AreBoth NoOffsets ts (read_part_then_next (comma_reading_of_first_token (head_token us) us)
        (λ _ vs. second_offset_and_bracket_reading down vs))
    comma l down e o (ASign Comma c us) = two l down c us e o (offset_reading us) (offset_part us)
    comma l down e o _ = (l, e, no_comma o (λ k. cc))

    one : (p : ExpressionPartReading ℤ) → IsPart TokensDenoteOffset NoOffset ts p
        → IsPart AreBoth NoOffsets ts
        (read_part_then_next p (λ down us. read_part_then_next (comma_reading_of_first_token (head_token us) us)
        (λ _ vs. second_offset_and_bracket_reading down vs)))
    one (Ok (down, us)) (l, e, o) = comma l down e o (look us)
    one (Err x) (l, e, h) = (l, e, first h)

-- the first tokens stand for the expression, and the rest does not continue it
abbrev Fronts : ℕ → List TokenAtColumn → Term → List TokenAtColumn → Type 0
Fronts k ts a rest = (front : List TokenAtColumn) × (ts ≡ front ++ rest) × Stands k front a
    × (first_continuing_operator k rest ≡ None)

abbrev pub IsSound : ParserState → ExpressionReadOutcome → Type 0
IsSound s (Stops kind rest) = Unit {0}
IsSound (Operand ts) (Got a rest) = Fronts zero ts a rest
IsSound (Whole k ts) (Got a rest) = Fronts k ts a rest
IsSound (More k (Got a ts)) (Got b rest) =
    (j : ℕ) (front : List TokenAtColumn) → j ≤ k → first_continuing_operator (pred j) ts ≡ None → Stands j front a → (mid : List TokenAtColumn) × (ts ≡ mid ++ rest) × Stands k (front ++ mid) b × (first_continuing_operator k rest ≡ None)
IsSound (Expression ts) (Got a rest) = (front : List TokenAtColumn) × (ts ≡ front ++ rest) × IsExpression front a
IsSound (Choice (Got a ts)) (Got b rest) = (front : List TokenAtColumn) → Stands top_operator_level front a → (mid : List TokenAtColumn) × (ts ≡ mid ++ rest) × IsExpression (front ++ mid) b
IsSound (AfterQuestion x (Got a ts)) (Got b rest) =
    (front us : List TokenAtColumn) (c : ℕ) → Stands top_operator_level front x → IsExpression us a → (mid : List TokenAtColumn) × (ts ≡ mid ++ rest) × IsExpression (front ++ sign_token_at_column Question c ∷ (us ++ mid)) b
IsSound (Called ts) (GotAll xs rest) = (front : List TokenAtColumn) × (ts ≡ front ++ rest) × AreCalled front xs
IsSound (Arguments ts) (GotAll xs rest) = (front : List TokenAtColumn) × (ts ≡ front ++ rest) × AreArguments front xs
IsSound (Onward (Got a ts)) (GotAll xs rest) = (front : List TokenAtColumn) → IsExpression front a → (mid : List TokenAtColumn) × (ts ≡ mid ++ rest) × AreArguments (front ++ mid) xs
IsSound s o = ⊥

-- two operands joined by an operator are an expression of the operator's level, which is at most k
pub goes_joined : (j k : ℕ) (s : TokenAtColumn) (ts : List TokenAtColumn)
    (op : Operator) {front us : List TokenAtColumn} {a b : Term}
    → first_continuing_operator k (s ∷ ts) ≡ Some op
    → first_continuing_operator (pred j) (s ∷ ts) ≡ None → Stands j front a → Stands (right_operand_level op) us b
    → Stands (suc (right_operand_level op)) (front ++ s ∷ us) (Binary op a b) × (suc (right_operand_level op) ≤ k)
goes_joined j k s ts op {front = front} {a = a} e stop st su =
    let here = below_some k (operator_of_token s.token) op e in
    let high = above_none (pred j) op (sym (ap (operator_below_level (pred j)) here.0) ∙ stop) in
    let here_level = here.1 in
    (joined s op here.0 refl (raise j (suc (right_operand_level op)) front a (omega arith) st) su, omega arith)

sound_moved : (name : List ℕ) (c d : ℕ) (ts : List TokenAtColumn) (p : ExpressionPartReading (ℤ × ℤ))
    → IsPart AreBoth NoOffsets ts p
    → IsSound (Operand (name_token_at_column name c ∷ sign_token_at_column OpenBracket d ∷ ts))
    (outcome_after_offsets name c p)
sound_moved name c d ts (Err e) h = tt
sound_moved name c d ts (Ok x) h =
    let opens : List TokenAtColumn = name_token_at_column name c ∷ sign_token_at_column OpenBracket d ∷ [] in
    (opens ++ h.0, ap (λ l. opens ++ l) h.1, grammar.moved h.2, next_zero x.1)

sound_closed : (c : ℕ) (ts : List TokenAtColumn) (a : Term) {rest : List TokenAtColumn} → Looks rest
    → IsSound (Expression ts) (Got a rest) → IsSound (Operand (sign_token_at_column OpenParenthesis c ∷ ts)) (outcome_after_parenthesis (head_token rest) a rest)
sound_closed c ts a (ASign CloseParenthesis d rest) h =
    let all = both_parts h.0 (sign_token_at_column CloseParenthesis d ∷ []) rest h.1 refl in
    (_, ap (λ l. sign_token_at_column OpenParenthesis c ∷ l) all, grammar.inside d h.2, next_zero rest)
sound_closed c ts a _ h = tt

pub sound : {s : ParserState} {o : ExpressionReadOutcome} → ParserStateReadsAs s o → IsSound s o
sound (reading.number {n = n} {c = c} {ts = ts}) = (number_token_at_column n c ∷ [], refl, grammar.number, next_zero ts)
sound (reading.map {name = name} {c = c} {ts = ts} f) = (
  name_token_at_column name c
      ∷ [],
  refl,
  grammar.map,
  next_zero ts,
)
sound (reading.moved {name = name} {c = c} {d = d} {ts = ts}) =
    sound_moved name c d ts (reading.read_both_offsets ts) (offsets_part ts)
sound (reading.called {name = name} {c = c} {d = d} {ts = ts} {o = GotAll xs rest} f e r) =
    go (sound r) (accepts_argument_count f (argument_count xs)) refl
  where
    opens : List TokenAtColumn
    opens = name_token_at_column name c ∷ sign_token_at_column OpenParenthesis d ∷ []

    go : IsSound (Called ts) (GotAll xs rest) → (b : Bool) → accepts_argument_count f (argument_count xs) ≡ b
        → IsSound (Operand (opens ++ ts)) (outcome_of_checked_call b f xs (opens ++ ts) rest)
    go h true a = (opens ++ h.0, ap (λ l. opens ++ l) h.1, grammar.called f e a h.2, next_zero rest)
    go h false a = tt
sound (reading.negated {c = c} {o = Got a rest} r) =
    let h = sound r in
    (sign_token_at_column Minus c ∷ h.0, ap (λ l. sign_token_at_column Minus c ∷ l) h.1, grammar.negated h.2, h.3)
sound (reading.not {c = c} {o = Got a rest} r) =
    let h = sound r in (
      sign_token_at_column Exclamation c ∷ h.0,
      ap (λ l. sign_token_at_column Exclamation c
          ∷ l) h.1,
      grammar.not h.2,
      h.3,
    )
sound (reading.inside {c = c} {ts = ts} {o = Got a rest} r) = sound_closed c ts a (look rest) (sound r)
sound (whole {o = Got a us} {p = Got b rest} r m) =
    let h = sound r in
    let n = sound m zero h.0 (omega arith) (next_zero us) h.2 in
    (h.0 ++ n.0, both_parts h.0 n.0 rest h.1 n.1, n.2, n.3)
sound (whole {p = Stops kind rest} r m) = tt
sound (whole r m) = absurd (sound m)
sound (done {k = k} {a = a} e) = λ j front le stop st.
    ([], refl, subst (λ l. Stands k l a) (sym (append-nil front)) (raise j k front a le st), e)
sound (more {k = k} {s = s} {ts = ts} {o = Got b us} {p = Got c rest} op e r m) = λ j front le stop st.
    let h = sound r in
    let both = goes_joined j k s ts op e stop st h.2 in
    let n = sound m (suc (right_operand_level op)) (front ++ s ∷ h.0) both.1 h.3 both.0 in
    let all = subst (λ l. Stands k l c) (append_assoc front (s ∷ h.0) n.0) n.2 in
    (s ∷ (h.0 ++ n.0), ap (λ l. s ∷ l) (both_parts h.0 n.0 rest h.1 n.1), all, n.3)
sound (more {p = Stops kind rest} op e r m) = tt
sound (more op e r m) = absurd (sound m)
sound (expression {o = Got a us} {p = Got b rest} r m) =
    let h = sound r in
    let n = sound m h.0 h.2 in
    (h.0 ++ n.0, both_parts h.0 n.0 rest h.1 n.1, n.2)
sound (expression {p = Stops kind rest} r m) = tt
sound (expression r m) = absurd (sound m)
sound (unchosen {a = a} e) = λ front st.
    ([], refl, subst (λ l. IsExpression l a) (sym (append-nil front)) (grammar.IsExpression.plain st))
sound (asked {c = c} {o = Got a us} {p = Got b rest} r m) = λ front st.
    let h = sound r in
    let n = sound m front h.0 c st h.2 in (
      sign_token_at_column Question c ∷ (h.0 ++ n.0),
      ap (λ l. sign_token_at_column Question c
          ∷ l) (both_parts h.0 n.0 rest h.1 n.1),
      n.2,
    )
sound (asked {p = Stops kind rest} r m) = tt
sound (asked r m) = absurd (sound m)
sound (otherwise {c = d} {o = Got b rest} r) = λ front us c st ex.
    let h = sound r in
    (sign_token_at_column Colon d ∷ h.0, ap (λ l. sign_token_at_column Colon d ∷ l) h.1, choice c d st ex h.2)
sound (reading.none {c = c}) = (sign_token_at_column CloseParenthesis c ∷ [], refl, grammar.none)
sound (reading.some {o = GotAll xs rest} e r) = let h = sound r in (h.0, h.1, grammar.some h.2)
sound (reading.some {o = Got a rest} e r) = absurd (sound r)
sound (arguments {o = Got a us} {p = GotAll xs rest} r m) =
    let h = sound r in
    let n = sound m h.0 h.2 in
    (h.0 ++ n.0, both_parts h.0 n.0 rest h.1 n.1, n.2)
sound (arguments {p = Stops kind rest} r m) = tt
sound (arguments r m) = absurd (sound m)
sound (reading.last {c = c}) = λ front st. (sign_token_at_column CloseParenthesis c ∷ [], refl, grammar.last c st)
sound (reading.another {c = c} {o = GotAll xs rest} r) = λ front st.
    let h = sound r in
    (sign_token_at_column Comma c ∷ h.0, ap (λ l. sign_token_at_column Comma c ∷ l) h.1, grammar.another c st h.2)
sound _ = tt

-- tokens that are read to the end as an expression stand for it
pub sound_all : (ts : List TokenAtColumn) (a : Term) → ParserStateReadsAs (Expression ts) (Got a []) → IsExpression ts a
sound_all ts a r =
    let h = sound r in
    subst (λ l. IsExpression l a) (sym (append-nil h.0) ∙ sym h.1) h.2
