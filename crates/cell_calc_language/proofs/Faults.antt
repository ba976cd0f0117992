-- If reading ends too early, its error is the first error that the tokens show.
use Rattle.std.proofs.Common.{◌≡◌, ℕ, ℤ, List, [], ◌∷◌, ◌++◌, Option, Some, None, refl, sym, ap, ◌∙◌, subst, append_assoc, append-nil, inl, inr, arith}
use Rattle.std.specs.Prelude.{◌+◌, length, Result, Ok, Err, IfErr, MatchResult}
use Rattle.std.proofs.lemmas.List.{append_cancel_right}
use Rattle.cell_calc_language.specs.declared.assignment.Assignment.{Assignment}
use Rattle.cell_calc_grammar.specs.declared.calc_fault.CalcFault.{CalcFault}
use Rattle.cell_calc_grammar.specs.declared.calc_fault.CalcKind.{CalcKind}
use Rattle.cell_calc_grammar.specs.declared.calc_fault.CalcKind.TheVariants.{Expected, UnknownFunction, Arguments as BadArguments, BadOffset}
use Rattle.cell_calc_language.specs.declared.token_parsing.ParseStop.{ParseStop}
use Rattle.cell_calc_language.specs.declared.token_parsing.ParseStop.TheVariants.{Memory, At}
use Rattle.cell_calc_grammar.specs.declared.token.TokenAtColumn.{TokenAtColumn}
use Rattle.cell_calc_grammar.specs.declared.token.Sign.TheVariants.{OpenParenthesis, CloseParenthesis, Assign}
use Rattle.cell_calc_grammar.specs.declared.token.Token.{Token}
use Rattle.cell_calc_grammar.specs.declared.token.Token.TheVariants as token
use Rattle.cell_calc_language.specs.Assignment.{AreTokensOfAssignment}
use Rattle.cell_calc_grammar.specs.Grammar as grammar
use Rattle.cell_calc_grammar.specs.Grammar.{IsExpression}
use Rattle.cell_calc_language.specs.GrammarFault as grammar_fault
use Rattle.cell_calc_language.specs.GrammarFault.{IsOptionalOffsetSign, AreTokensBeforeOffsetNumber, EndsBeforeOffsetNumber, CanContinueToAssignment, NextTokenShowsFault, first_token_column_or_end, DenotesNoAssignment, IsGrammarFault, IsGrammarFaultOrMemory, IsFaultOfAssignmentText}
use Rattle.cell_calc_grammar.specs.TokensRead.{ExpressionReadOutcome, Got, Stops, Expression, TokenIsNotSign}
use Rattle.cell_calc_grammar.specs.TokensRead.{ParserStateReadsAs, tokens_after_first}
use Rattle.cell_calc_grammar.specs.Shape.{token_without_value, tokens_without_values}
use Rattle.cell_calc_language.specs.Stopping.{ParserStopsWhereReadingStops, RestFollowsSign, fault_of_parser_stop}
use Rattle.cell_calc_grammar.specs.Tree.{Tree}
use Rattle.cell_calc_grammar.specs.Term.{Term}
use Rattle.cell_calc_grammar.specs.Token.{number_token_at_column, name_token_at_column, sign_token_at_column}
use Rattle.cell_calc_grammar.specs.Token.{head_token}
use Rattle.cell_calc_grammar.specs.Tokens.{token_fault, token_list_of_text}
use Rattle.cell_calc_language.proofs.Bad.{can_before, HasNoBad, reports_none, none_in_nothing, none_in_one, none_in_assignment, none_in_call, called_end}
use Rattle.cell_calc_grammar.proofs.Complete.{one_outcome, read_all}
use Rattle.cell_calc_language.proofs.Law.{one}
use Rattle.cell_calc_grammar.proofs.Occurs.{find}
use Rattle.cell_calc_grammar.proofs.Refused.{Refuses, quiet_step, walked}
use Rattle.cell_calc_grammar.proofs.Sound.{sound, sound_all, front_is, Signed, unsigned, minus, plus, NoOffsets, first, second}
use Rattle.cell_calc_language.proofs.Steps.{after_is}
use Rattle.cell_calc_grammar.proofs.Viable.{IsSegment, SomeExpression, viable, zero_expression}
use Rattle.cell_calc_grammar.proofs.Walk as place
use Rattle.cell_calc_grammar.proofs.Walk.{Place, Start, Lands, step_on, walk, walk_none, walk_both, expression_makes}

-- the tokens of an assignment are walked to the end
assignment_makes : (ts : List TokenAtColumn) (a : Assignment) → AreTokensOfAssignment ts a
    → Lands [] (walk (Some Start) (tokens_without_values ts))
assignment_makes ts a h = subst (λ l. Lands [] (walk (Some Start) (tokens_without_values l))) (sym h.3)
    (expression_makes h.4 [])

not_landed : Lands [] None → ⊥
not_landed (inl l) = cc
not_landed (inr l) = cc

-- tokens that cannot be walked cannot continue
cannot : (ts : List TokenAtColumn) → walk (Some Start) (tokens_without_values ts) ≡ None → CanContinueToAssignment ts
    → ⊥
cannot ts e (us, after, a, alike, h) =
    let stuck : walk (Some Start) (tokens_without_values us) ≡ None = ap (walk (Some Start)) alike ∙ e in
    let all = walk_both (Some Start) us after ∙ ap (λ q. walk q (tokens_without_values after)) stuck
    ∙ walk_none (tokens_without_values after) in
    not_landed (subst (Lands []) all (assignment_makes (us ++ after) a h))

none_of_nothing : DenotesNoAssignment []
none_of_nothing a h =
    let e = h.3 in
    cc

none_without_name : (s : TokenAtColumn) (ts : List TokenAtColumn) → ((name : List ℕ) → s.token ≡ token.Name name → ⊥) → DenotesNoAssignment (s ∷ ts)
none_without_name s ts n = λ a h.
    let same : s ≡ name_token_at_column a.target h.0 = let e = h.3 in cc in
    n a.target (ap (λ (x : TokenAtColumn). x.token) same)

none_without_assign : (s : TokenAtColumn) (ts : List TokenAtColumn) → TokenIsNotSign Assign (head_token ts)
    → DenotesNoAssignment (s ∷ ts)
none_without_assign s ts n = λ a h. n (ap (λ l. head_token (tokens_after_first l)) h.3)

none_of_expression : (s t : TokenAtColumn) (ts : List TokenAtColumn) → ((a : Term) → IsExpression ts a → ⊥)
    → DenotesNoAssignment (s ∷ t ∷ ts)
none_of_expression s t ts n = λ a h. n a.expr (subst (λ l. IsExpression l a.expr) (sym (ap (λ l. tokens_after_first (tokens_after_first l)) h.3)) h.4)

-- tokens of an expression's shape continue after a name and the sign of assignment
expression_goes_on : (name : List ℕ) (c d : ℕ) (ts us after : List TokenAtColumn) → tokens_without_values us ≡ tokens_without_values ts → SomeExpression (us ++ after) → CanContinueToAssignment (name_token_at_column name c ∷ sign_token_at_column Assign d ∷ ts)
expression_goes_on name c d ts us after e (a, h) =
    let x : Assignment = record { target = name; expr = a } in
    (name_token_at_column name c ∷ sign_token_at_column Assign d ∷ us, after, x, ap (λ l. token.Name [] ∷ token.Sign Assign ∷ l) e, (c, d, us ++ after, refl, h))

name_goes_on : (name : List ℕ) (c : ℕ) → CanContinueToAssignment (name_token_at_column name c ∷ [])
name_goes_on name c =
    can_before (name_token_at_column name c ∷ []) (sign_token_at_column Assign 0 ∷ []) (expression_goes_on name c 0 [] [] (number_token_at_column 0 0 ∷ []) refl (Tree.Number 0, zero_expression))

nothing_goes_on : CanContinueToAssignment []
nothing_goes_on = can_before [] (name_token_at_column [] 0 ∷ []) (name_goes_on [] 0)

-- tokens that can continue and show no error end where more is expected
expected_at_end : (end : ℕ) (ts : List TokenAtColumn) → CanContinueToAssignment ts → HasNoBad ts → DenotesNoAssignment ts → IsGrammarFault end ts (token_fault Expected end)
expected_at_end end ts can free none = (inr (refl, can, reports_none ts can free), none)

-- a token that cannot come after tokens that can continue is an error
unexpected : (end : ℕ) (before rest : List TokenAtColumn) (next : TokenAtColumn) → CanContinueToAssignment before → HasNoBad before → (CanContinueToAssignment (before ++ next ∷ []) → ⊥) → DenotesNoAssignment (before ++ next ∷ rest) → IsGrammarFault end (before ++ next ∷ rest) (token_fault Expected next.column)
unexpected end before rest next can free not none = (inl (before, rest, next, refl, (refl, can, not), reports_none before can free), none)

pub no_name : (end : ℕ) (s : TokenAtColumn) (ts : List TokenAtColumn) → ((name : List ℕ) → s.token ≡ token.Name name → ⊥) → IsGrammarFault end (s ∷ ts) (token_fault Expected s.column)
no_name end s ts n = unexpected end [] ts s nothing_goes_on none_in_nothing (cannot (s ∷ []) (at s.token n)) (none_without_name s ts n)
  where
    at : (t : Token) → ((name : List ℕ) → t ≡ token.Name name → ⊥) → step_on (Some Start) (token_without_value t) ≡ None
    at (token.Name name) n = absurd (n name refl)
    at _ n = refl

pub no_assign : (end : ℕ) (name : List ℕ) (c : ℕ) (ts : List TokenAtColumn) → TokenIsNotSign Assign (head_token ts) → IsGrammarFault end (name_token_at_column name c ∷ ts) (token_fault Expected (first_token_column_or_end end ts))
no_assign end name c [] n = expected_at_end end (name_token_at_column name c ∷ []) (name_goes_on name c) (none_in_one (name_token_at_column name c)) (none_without_assign (name_token_at_column name c) [] n)
no_assign end name c (t ∷ rest) n =
    unexpected end (name_token_at_column name c ∷ []) rest t (name_goes_on name c) (none_in_one (name_token_at_column name c)) (cannot (name_token_at_column name c ∷ t ∷ []) (refused t.token n)) (none_without_assign (name_token_at_column name c) (t ∷ rest) n)
  where
    refused : (t : Token) → TokenIsNotSign Assign (Some t) → step_on (Some place.Target) (token_without_value t) ≡ None
    refused (token.Sign Assign) n = absurd (n refl)
    refused _ n = refl

-- reading did not end with an expression that uses all tokens
abbrev IsNoEnd : ExpressionReadOutcome → Type 0
IsNoEnd o = (a : Term) → o ≡ Got a [] → ⊥

no_expression : (ts : List TokenAtColumn) (o : ExpressionReadOutcome) → ParserStateReadsAs (Expression ts) o → IsNoEnd o → (a : Term) → IsExpression ts a → ⊥
no_expression ts o r n a h = n a (one_outcome r (read_all ts a h))

-- a token that cannot come after the tokens of an expression cannot continue an assignment
refused_after : (name : List ℕ) (c d : ℕ) (before : List TokenAtColumn) (next : TokenAtColumn) → step_on (walk (Some (place.Operand [])) (tokens_without_values before)) (token_without_value next.token) ≡ None → CanContinueToAssignment (name_token_at_column name c ∷ sign_token_at_column Assign d ∷ (before ++ next ∷ [])) → ⊥
refused_after name c d before next e = cannot (name_token_at_column name c ∷ sign_token_at_column Assign d ∷ (before ++ next ∷ [])) (walk_both (Some (place.Operand [])) before (next ∷ []) ∙ e)

-- two starts of a list that leave the same rest are equal
one_before : (ts before before' rest : List TokenAtColumn) → ts ≡ before ++ rest → ts ≡ before' ++ rest
    → before ≡ before'
one_before ts before before' rest e f = append_cancel_right before before' rest (sym e ∙ f)

-- a stop of this kind is the first error of the tokens
abbrev IsFaultAt : (end : ℕ) (ts : List TokenAtColumn) (kind : CalcKind) (rest : List TokenAtColumn) → Type 0
IsFaultAt end ts kind rest = IsGrammarFault end ts (token_fault kind (first_token_column_or_end end rest))

stops_expected : (end : ℕ) (name : List ℕ) (c d : ℕ) (ts : List TokenAtColumn) (rest : List TokenAtColumn) (r : ParserStateReadsAs (Expression ts) (Stops Expected rest)) → CanContinueToAssignment (name_token_at_column name c ∷ sign_token_at_column Assign d ∷ (find r).before) → DenotesNoAssignment (name_token_at_column name c ∷ sign_token_at_column Assign d ∷ ts)
    → IsFaultAt end (name_token_at_column name c ∷ sign_token_at_column Assign d ∷ ts) Expected rest
stops_expected end name c d ts rest r can none = go rest refl
  where
    before : List TokenAtColumn
    before = name_token_at_column name c ∷ sign_token_at_column Assign d ∷ (find r).before

    free : HasNoBad before
    free = subst (λ l. HasNoBad (name_token_at_column name c ∷ sign_token_at_column Assign d ∷ l)) (append-nil (find r).before) (none_in_assignment name c d r [] rest refl (λ q e. refl) none_in_nothing)

    all : name_token_at_column name c ∷ sign_token_at_column Assign d ∷ ts ≡ before ++ rest
    all = ap (λ l. name_token_at_column name c ∷ sign_token_at_column Assign d ∷ l) (find r).all

    go : (l : List TokenAtColumn) → rest ≡ l → IsFaultAt end (name_token_at_column name c
        ∷ sign_token_at_column Assign d ∷ ts) Expected l
    go [] e =
        let same : before ≡ name_token_at_column name c ∷ sign_token_at_column Assign d ∷ ts = sym (all ∙ ap (λ l. before ++ l) e ∙ append-nil before) in
        expected_at_end end (name_token_at_column name c ∷ sign_token_at_column Assign d ∷ ts) (subst CanContinueToAssignment same can) (subst HasNoBad same free) none
    go (next ∷ more) e =
        let same : name_token_at_column name c ∷ sign_token_at_column Assign d ∷ ts ≡ before ++ next ∷ more = all
        ∙ ap (λ l. before ++ l) e in
        let w = (walked r).1 [] in
        let one = one_before ts w.before (find r).before rest w.all (find r).all in
        let refused : step_on (walk (Some (place.Operand [])) (tokens_without_values (find r).before))
        (token_without_value next.token) ≡ None =
        subst (λ l. step_on (walk (Some (place.Operand [])) (tokens_without_values l))
        (token_without_value next.token) ≡ None) one
        (subst (λ t. Refuses t (walk (Some (place.Operand [])) (tokens_without_values w.before))) (ap head_token e)
        (w.ends refl)) in
        subst (λ l. IsGrammarFault end l (token_fault Expected next.column)) (sym same)
        (unexpected end before more next can free (refused_after name c d (find r).before next refused) (subst DenotesNoAssignment same none))

-- the error is reported at the last token of a segment that begins where reading stopped
stops_later : (end : ℕ) (name : List ℕ) (c d : ℕ) (ts : List TokenAtColumn) (kind : CalcKind)
    (rest : List TokenAtColumn)
    (r : ParserStateReadsAs (Expression ts) (Stops kind rest)) (extra more : List TokenAtColumn) (next : TokenAtColumn)
    → rest ≡ (extra ++ next ∷ []) ++ more → ((q : List TokenAtColumn) → Stops kind rest ≡ Stops BadOffset q
    → extra ≡ [])
    → HasNoBad extra
    → CanContinueToAssignment (name_token_at_column name c ∷ sign_token_at_column Assign d
    ∷ ((find r).before ++ (extra ++ next ∷ [])))
    → (CanContinueToAssignment ((name_token_at_column name c ∷ sign_token_at_column Assign d
    ∷ ((find r).before ++ extra)) ++ next ∷ [])
    → NextTokenShowsFault kind (first_token_column_or_end end ((extra ++ next ∷ []) ++ more))
    (name_token_at_column name c ∷ sign_token_at_column Assign d ∷ ((find r).before ++ extra)) next)
    → DenotesNoAssignment (name_token_at_column name c ∷ sign_token_at_column Assign d ∷ ts)
    → IsFaultAt end (name_token_at_column name c ∷ sign_token_at_column Assign d ∷ ts) kind rest
stops_later end name c d ts kind rest r extra more next e far free can reported none =
    let opens : List TokenAtColumn = name_token_at_column name c ∷ sign_token_at_column Assign d ∷ [] in
    let before : List TokenAtColumn = opens ++ ((find r).before ++ extra) in
    let can' = subst CanContinueToAssignment (ap (λ l. opens ++ l) (sym (append_assoc (find r).before extra (next
    ∷ [])))) can in
    let at : rest ≡ extra ++ next ∷ more = e ∙ append_assoc extra (next ∷ []) more in
    let all : opens ++ ts ≡ before ++ next ∷ more =
    ap (λ l. opens ++ l)
    ((find r).all ∙ ap (λ l. (find r).before ++ l) at ∙ sym (append_assoc (find r).before extra (next ∷ more))) in
    let free' = none_in_assignment name c d r extra (next ∷ more) at far free in
    subst (λ k. IsGrammarFault end (opens ++ ts) (token_fault kind k)) (sym (ap (first_token_column_or_end end) e))
    (inl (before, more, next, all, reported can', reports_none before (can_before before (next ∷ []) can') free'), none)

offset_sign : {f : ℕ → ℤ} {ts : List TokenAtColumn} → Signed f ts → IsOptionalOffsetSign ts
offset_sign unsigned = grammar_fault.unsigned
offset_sign minus = grammar_fault.minus _
offset_sign plus = grammar_fault.plus _

before_number : {front rest : List TokenAtColumn} → NoOffsets BadOffset front rest → AreTokensBeforeOffsetNumber front
before_number (first h) = grammar_fault.first (offset_sign h.1)
before_number (second c o h) = grammar_fault.second c o (offset_sign h.1)

-- a stop of reading is the error that its segment shows
stops_as : (end : ℕ) (name : List ℕ) (c d : ℕ) (ts : List TokenAtColumn) (kind : CalcKind) (rest : List TokenAtColumn)
    (r : ParserStateReadsAs (Expression ts) (Stops kind rest)) (seg more : List TokenAtColumn) → rest ≡ seg ++ more
    → IsSegment kind (find r).before seg → CanContinueToAssignment (name_token_at_column name c
    ∷ sign_token_at_column Assign d ∷ ((find r).before ++ seg))
    → DenotesNoAssignment (name_token_at_column name c ∷ sign_token_at_column Assign d ∷ ts)
    → IsFaultAt end (name_token_at_column name c ∷ sign_token_at_column Assign d ∷ ts) kind rest
stops_as end name c d ts Expected rest r seg more e reported can none =
    let opens : List TokenAtColumn = name_token_at_column name c ∷ sign_token_at_column Assign d ∷ [] in
    stops_expected end name c d ts rest r
    (subst (λ l. CanContinueToAssignment (opens ++ l)) (ap (λ l. (find r).before ++ l) reported
    ∙ append-nil (find r).before) can) none
stops_as end name c d ts UnknownFunction rest r seg more e (f, c', d', s, u) can none =
    let front : List TokenAtColumn = name_token_at_column name c ∷ sign_token_at_column Assign d ∷ (find r).before in
    let same = append_assoc front (name_token_at_column f c' ∷ []) (sign_token_at_column OpenParenthesis d' ∷ []) in
    stops_later end name c d ts UnknownFunction rest r (name_token_at_column f c'
    ∷ []) more (sign_token_at_column OpenParenthesis d')
    (e ∙ ap (λ l. l ++ more) s)
    (λ q k. cc) (none_in_one (name_token_at_column f c')) (subst (λ l. CanContinueToAssignment (front ++ l)) s can)
    (λ can'. ((front, f, d', same, u), can')) none
stops_as end name c d ts BadArguments rest r seg more e (f, g, xs, c', d', inside, s, u, h, a) can none =
    let z = called_end h in
    let front : List TokenAtColumn = name_token_at_column name c ∷ sign_token_at_column Assign d ∷ (find r).before in
    let opens : List TokenAtColumn = name_token_at_column f c' ∷ sign_token_at_column OpenParenthesis d' ∷ [] in
    let last : TokenAtColumn = sign_token_at_column CloseParenthesis z.1 in
    let seg' : seg ≡ (opens ++ z.0) ++ last ∷ [] = s ∙ ap (λ l. opens ++ l) z.2 in
    let call : (front ++ (opens ++ z.0)) ++ last ∷ [] ≡ front ++ (opens ++ inside) =
    append_assoc front (opens ++ z.0) (last ∷ []) ∙ ap (λ l. front ++ (opens ++ l)) (sym z.2) in
    stops_later end name c d ts BadArguments rest r (opens ++ z.0) more last (e ∙ ap (λ l. l ++ more) seg')
    (λ q k. cc)
    (none_in_call f c' d' z.0 last g xs u (subst (λ l. grammar.AreCalled l xs) z.2 h) a)
    (subst (λ l. CanContinueToAssignment (front ++ l)) seg' can)
    (λ can'. ((front, inside, f, d', g, xs, call, u, h, a), can')) none
stops_as end name c d ts BadOffset rest r seg more e
    (n, c', s, over, (open', inner, rest', f, d', d'', all, stop)) can none =
    let opens : List TokenAtColumn = name_token_at_column name c ∷ sign_token_at_column Assign d ∷ [] in
    let same = append-nil (opens ++ (find r).before) in
    let inside : EndsBeforeOffsetNumber (opens ++ (find r).before) =
    (opens ++ open', inner, f, d', d'', ap (λ l. opens ++ l) all, before_number stop) in
    stops_later end name c d ts BadOffset rest r [] more (number_token_at_column n c') (e ∙ ap (λ l. l ++ more) s)
    (λ q k. refl) none_in_nothing
    (subst (λ l. CanContinueToAssignment (opens ++ ((find r).before ++ l))) s can)
    (λ can'. (
      (
        opens ++ ((find r).before ++ []),
        n,
        refl,
        over,
        subst EndsBeforeOffsetNumber
            (sym same) inside,
      ),
      can',
    )) none
stops_as end name c d ts _ rest r seg more e reported can none = absurd reported

pub stops : (end : ℕ) (name : List ℕ) (c d : ℕ) (ts : List TokenAtColumn) (kind : CalcKind) (rest : List TokenAtColumn)
    → ParserStateReadsAs (Expression ts) (Stops kind rest) → IsFaultAt end (name_token_at_column name c
    ∷ sign_token_at_column Assign d ∷ ts) kind rest
stops end name c d ts kind rest r =
    let v = viable r in
    let w = find r in
    let one = one_before ts v.before w.before rest v.all w.all in
    let shape_is = v.same ∙ ap (λ l. tokens_without_values (l ++ v.seg)) one in
    let can = expression_goes_on name c d (w.before ++ v.seg) v.us v.after shape_is v.goes in
    let none = none_of_expression (name_token_at_column name c) (sign_token_at_column Assign d) ts (no_expression ts (Stops kind rest) r (λ a e. cc)) in
    stops_as end name c d ts kind rest r v.seg v.more v.front (subst (λ b. IsSegment kind b v.seg) one v.reported) can none

pub goes_on : (end : ℕ) (name : List ℕ) (c d : ℕ) (ts : List TokenAtColumn) (a : Term) (u : TokenAtColumn) (rest : List TokenAtColumn) → ParserStateReadsAs (Expression ts) (Got a (u ∷ rest)) → IsFaultAt end (name_token_at_column name c ∷ sign_token_at_column Assign d ∷ ts) Expected (u ∷ rest)
goes_on end name c d ts a u rest r =
    let w = find r in
    let h = sound r in
    let before : List TokenAtColumn = name_token_at_column name c ∷ sign_token_at_column Assign d ∷ w.before in
    let same = one_before ts h.0 w.before (u ∷ rest) h.1 w.all in
    let can = expression_goes_on name c d w.before h.0 [] (ap tokens_without_values same) (subst SomeExpression (sym (append-nil h.0)) (a, h.2)) in
    let free = subst (λ l. HasNoBad (name_token_at_column name c ∷ sign_token_at_column Assign d ∷ l)) (append-nil w.before) (none_in_assignment name c d r [] (u ∷ rest) refl (λ q e. refl) none_in_nothing) in
    let x = walked r in
    let y = x.1 [] in
    let one = one_before ts y.before w.before (u ∷ rest) y.all w.all in
    let refused : step_on (walk (Some (place.Operand [])) (tokens_without_values w.before))
    (token_without_value u.token) ≡ None =
    subst (λ l. step_on (walk (Some (place.Operand [])) (tokens_without_values l)) (token_without_value u.token) ≡ None) one (y.ends ∙ quiet_step [] u.token x.0) in
    let all : name_token_at_column name c ∷ sign_token_at_column Assign d ∷ ts ≡ before ++ u ∷ rest = ap (λ l. name_token_at_column name c ∷ sign_token_at_column Assign d ∷ l) w.all in
    let none = none_of_expression (name_token_at_column name c) (sign_token_at_column Assign d) ts (no_expression ts (Got a (u ∷ rest)) r (λ b e. cc)) in
    subst (λ l. IsGrammarFault end l (token_fault Expected u.column)) (sym all) (unexpected end before rest u can free (refused_after name c d w.before u refused) (subst DenotesNoAssignment all none))

-- a name and the assignment sign, as the code finds them before the expression
abbrev pub Begins : List ℕ → List TokenAtColumn → List TokenAtColumn → Type 0
Begins name ts us = (s : TokenAtColumn) × (rest : List TokenAtColumn) × (ts ≡ s ∷ rest) × (s.token ≡ token.Name name) × RestFollowsSign Assign rest us

pub begins_is : (name : List ℕ) (ts us : List TokenAtColumn) → Begins name ts us → (c d : ℕ) × (ts ≡ name_token_at_column name c ∷ sign_token_at_column Assign d ∷ us)
begins_is name ts us h =
    let f = front_is ts (token.Name name) (ap head_token h.2 ∙ ap (λ x. Some x) h.3) in
    let g = after_is Assign h.1 us h.4 in (
      f.0,
      g.0,
      f.1 ∙ ap (λ l. name_token_at_column name f.0 ∷ tokens_after_first l) h.2 ∙ ap (λ l. name_token_at_column name f.0
          ∷ l) g.1,
    )

pub nothing_at_all : (end : ℕ) → IsGrammarFault end [] (token_fault Expected end)
nothing_at_all end = expected_at_end end [] nothing_goes_on none_in_nothing none_of_nothing

pub fault_nothing : (end : ℕ) (ts : List TokenAtColumn) → ts ≡ []
    → IsGrammarFaultOrMemory end ts (token_fault Expected (first_token_column_or_end end ts))
fault_nothing end ts e = inr (subst (λ l. IsGrammarFault end l (token_fault Expected (first_token_column_or_end end l))) (sym e) (nothing_at_all end))

pub fault_no_name : (end : ℕ) (ts : List TokenAtColumn) (s : TokenAtColumn) (rest : List TokenAtColumn) → ts ≡ s ∷ rest → ((name : List ℕ) → s.token ≡ token.Name name → ⊥) → IsGrammarFaultOrMemory end ts (token_fault Expected (first_token_column_or_end end ts))
fault_no_name end ts s rest e n = inr (subst (λ l. IsGrammarFault end l (token_fault Expected (first_token_column_or_end end l))) (sym e) (no_name end s rest n))

pub fault_no_assign : (end : ℕ) (ts : List TokenAtColumn) (s : TokenAtColumn) (rest : List TokenAtColumn) (name : List ℕ) → ts ≡ s ∷ rest → s.token ≡ token.Name name → TokenIsNotSign Assign (head_token rest) → IsGrammarFaultOrMemory end ts (token_fault Expected (first_token_column_or_end end rest))
fault_no_assign end ts s rest name e f n =
    let at = front_is ts (token.Name name) (ap head_token e ∙ ap (λ x. Some x) f) in
    let same : ts ≡ name_token_at_column name at.0 ∷ rest = at.1 ∙ ap (λ l. name_token_at_column name at.0
    ∷ tokens_after_first l) e in
    inr (subst (λ l. IsGrammarFault end l (token_fault Expected (first_token_column_or_end end rest))) (sym same) (no_assign end name at.0 rest n))

pub fault_stops : (end : ℕ) (name : List ℕ) (ts us : List TokenAtColumn) (stop : ParseStop) → Begins name ts us → ParserStopsWhereReadingStops (Expression us) stop → IsGrammarFaultOrMemory end ts (fault_of_parser_stop end stop)
fault_stops end name ts us Memory h r = inl refl
fault_stops end name ts us (At kind rest) h r =
    let b = begins_is name ts us h in
    inr (subst (λ l. IsGrammarFault end l (record { kind = kind; column = first_token_column_or_end end rest.now })) (sym b.2) (stops end name b.0 b.1 us kind rest.now r))

pub fault_goes_on : (end : ℕ) (name : List ℕ) (ts us : List TokenAtColumn) (a : Term) (left : List TokenAtColumn) (u : TokenAtColumn) (rest : List TokenAtColumn) → Begins name ts us → left ≡ u ∷ rest → ParserStateReadsAs (Expression us) (Got a left) → IsGrammarFaultOrMemory end ts (record { kind = Expected; column = first_token_column_or_end end left })
fault_goes_on end name ts us a left u rest h e r =
    let b = begins_is name ts us h in
    let f : IsGrammarFault end ts (token_fault Expected (first_token_column_or_end end (u ∷ rest))) =
    subst (λ l. IsGrammarFault end l (token_fault Expected (first_token_column_or_end end (u ∷ rest)))) (sym b.2) (goes_on end name b.0 b.1 us a u rest (subst (λ l. ParserStateReadsAs (Expression us) (Got a l)) e r)) in
    inr (subst (λ l. IsGrammarFault end ts (token_fault Expected (first_token_column_or_end end l))) (sym e) f)

pub ends : (name target : List ℕ) (ts us : List TokenAtColumn) (a : Term) (left : List TokenAtColumn) → target ≡ name → Begins name ts us → left ≡ [] → ParserStateReadsAs (Expression us) (Got a left) → AreTokensOfAssignment ts (record { target = target; expr = a })
ends name target ts us a left e h f r =
    let b = begins_is name ts us h in
    (b.0, b.1, us, b.2 ∙ ap (λ n. name_token_at_column n b.0 ∷ sign_token_at_column Assign b.1 ∷ us) (sym e), sound_all us a (subst (λ l. ParserStateReadsAs (Expression us) (Got a l)) f r))

pub ends_only : (name target : List ℕ) (ts us : List TokenAtColumn) (a : Term) (left : List TokenAtColumn) → target ≡ name → Begins name ts us → left ≡ [] → ParserStateReadsAs (Expression us) (Got a left) → (b : Assignment) → AreTokensOfAssignment ts b → b ≡ record { target = target; expr = a }
ends_only name target ts us a left e h f r = λ b is. one ts b (record { target = target; expr = a }) is (ends name target ts us a left e h f r)

-- an error of the tokens is the error of the text
text_fault_of : (text : List ℕ) (ts : List TokenAtColumn) → token_list_of_text text ≡ Ok ts → (token_fault : CalcFault) → IsGrammarFaultOrMemory (length text + 1) ts token_fault → IsFaultOfAssignmentText text token_fault
text_fault_of text ts e token_fault (inl m) = inl m
text_fault_of text ts e token_fault (inr g) = inr (subst (λ r. MatchResult r (λ us. IsGrammarFault (length text + 1) us token_fault) (λ first. token_fault ≡ first)) (sym e) g)

pub first_fault_of_text : (text : List ℕ) (ts : List TokenAtColumn) → token_list_of_text text ≡ Ok ts → (r : Result Assignment CalcFault) → IfErr r (λ token_fault. IsGrammarFaultOrMemory (length text + 1) ts token_fault) → IfErr r (λ token_fault. IsFaultOfAssignmentText text token_fault)
first_fault_of_text text ts e (Ok a) h = tt
first_fault_of_text text ts e (Err token_fault) h = text_fault_of text ts e token_fault h
