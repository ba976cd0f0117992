-- Tokens of which one shows an error although they can continue: reading them stops.
use Rattle.std.proofs.Common.{◌≡◌, ℕ, ◌<◌, List, [], ◌∷◌, ◌++◌, Some, Err, false, refl, sym, ap, ◌∙◌, subst, arith, append_assoc, append-nil, ◌⊎◌, inl, inr}
use Rattle.std.specs.Prelude.{nat_le}
use Rattle.std.proofs.lemmas.Bool.Decides.{nat_tests}
use Rattle.std.proofs.lemmas.List.{append_cancel_right}
use Rattle.cell_calc_grammar.specs.declared.calc_fault.CalcKind.{CalcKind}
use Rattle.cell_calc_grammar.specs.declared.calc_fault.CalcKind.TheVariants.{Expected, UnknownFunction, Arguments as BadArguments, BadOffset}
use Rattle.cell_calc_grammar.specs.declared.function.Function.{Function}
use Rattle.cell_calc_grammar.specs.declared.token.TokenAtColumn.{TokenAtColumn}
use Rattle.cell_calc_grammar.specs.declared.token.Sign.{Sign}
use Rattle.cell_calc_grammar.specs.declared.token.Sign.TheVariants.{OpenParenthesis, CloseParenthesis, OpenBracket, Comma, Assign}
use Rattle.cell_calc_grammar.specs.declared.token.Token.{Token}
use Rattle.cell_calc_grammar.specs.declared.token.Token.TheVariants as token
use Rattle.cell_calc_grammar.specs.Function.{function_with_name, accepts_argument_count}
use Rattle.cell_calc_language.specs.Assignment.{AreTokensOfAssignment}
use Rattle.cell_calc_grammar.specs.Grammar as grammar
use Rattle.cell_calc_grammar.specs.Grammar.{AreCalled, AreArguments}
use Rattle.cell_calc_language.specs.GrammarFault as grammar_fault
use Rattle.cell_calc_language.specs.GrammarFault.{IsOptionalOffsetSign, AreTokensBeforeOffsetNumber}
use Rattle.cell_calc_language.specs.GrammarFault.{CanContinueToAssignment}
use Rattle.cell_calc_language.specs.GrammarFault.{NextTokenShowsFault, ShowsNoGrammarFault}
use Rattle.cell_calc_grammar.specs.TokensRead as reading
use Rattle.cell_calc_grammar.specs.TokensRead.{offset_reading, ExpressionReadOutcome, Got, GotAll, Stops, ParserState, Operand, Called, outcome_after_offsets, outcome_of_checked_call, ParserStateReadsAs}
use Rattle.cell_calc_grammar.specs.Shape.{token_without_value, tokens_without_values}
use Rattle.cell_calc_grammar.specs.Term.{ArgumentTerms, argument_count}
use Rattle.cell_calc_grammar.specs.Token.{number_token_at_column, name_token_at_column, sign_token_at_column}
use Rattle.cell_calc_grammar.proofs.Complete.{one_outcome, is_called_read, offset_read}
use Rattle.cell_calc_grammar.proofs.Occurs.{left, find}
use Rattle.cell_calc_grammar.proofs.Splits.{in_first, in_second, Stays, stays, not_longer, not_nothing}
use Rattle.cell_calc_grammar.proofs.Walk.{shape_append}

-- if the shape of a list has two parts, so does the list, and the first parts match
split_shape : (ts : List Token) (us : List Token) (vs : List TokenAtColumn) → tokens_without_values vs ≡ ts ++ us → (ws xs : List TokenAtColumn) × (vs ≡ ws ++ xs) × (tokens_without_values ws ≡ ts)
split_shape [] us vs e = ([], vs, refl, refl)
split_shape (t ∷ ts) us [] e = absurd (let h : ⊥ = cc in h)
split_shape (t ∷ ts) us (v ∷ vs) e =
    let f : token_without_value v.token ≡ t = cc in
    let g : tokens_without_values vs ≡ ts ++ us = cc in
    let h = split_shape ts us vs g in
    (v ∷ h.0, h.1, ap (λ l. v ∷ l) h.2, ap (λ x. x ∷ tokens_without_values h.0) f ∙ ap (λ l. t ∷ l) h.3)

-- if tokens can continue, so can the tokens at their start
pub can_before : (ts us : List TokenAtColumn) → CanContinueToAssignment (ts ++ us) → CanContinueToAssignment ts
can_before ts us (vs, after, a, same, h) =
    let s = split_shape (tokens_without_values ts) (tokens_without_values us) vs (same ∙ shape_append ts us) in (
      s.0,
      s.1 ++ after,
      a,
      s.3,
      subst (λ l. AreTokensOfAssignment l a) (ap (λ l. l ++ after) s.2
          ∙ append_assoc s.0 s.1 after) h,
    )

-- reading stops at the name, or at a number that is too large for an offset
abbrev StopsAs : CalcKind → (from : List TokenAtColumn) → (more rest : List TokenAtColumn) → Type 0
StopsAs kind from more rest = (rest ≡ from) ⊎ ((kind ≡ BadOffset) × ((x : TokenAtColumn) × (y : List TokenAtColumn) × (rest ≡ x ∷ (y ++ more))))

-- the tokens end in an error of an operand that begins with a name
pub record Bad (kind : CalcKind) (ts : List TokenAtColumn) : Type 0 where
  pub front : List TokenAtColumn
  pub name : List ℕ
  pub column : ℕ
  pub ends : List TokenAtColumn
  pub is : ts ≡ front ++ name_token_at_column name column ∷ ends
  pub opens : (s : Sign) × (d : ℕ) × (more : List TokenAtColumn) × (ends ≡ sign_token_at_column s d ∷ more)
      × (s ≡ Assign → ⊥)
  pub stops : (more : List TokenAtColumn) → (rest : List TokenAtColumn) × ParserStateReadsAs (Operand (name_token_at_column name column ∷ (ends ++ more))) (Stops kind rest) × StopsAs kind (name_token_at_column name column ∷ (ends ++ more)) more rest
  pub calls : kind ≡ BadArguments → (d : ℕ) × (inside : List TokenAtColumn) × (xs : ArgumentTerms) × (ends ≡ sign_token_at_column OpenParenthesis d ∷ inside) × AreCalled inside xs

too_far : (n : ℕ) → 255 < n → nat_le n 255 ≡ false
too_far n h = grind (arith, nat_tests)

sign_far : {us : List TokenAtColumn} → IsOptionalOffsetSign us → (n c : ℕ) → 255 < n → (rest : List TokenAtColumn) → offset_reading (us ++ number_token_at_column n c ∷ rest) ≡ Err (BadOffset, number_token_at_column n c ∷ rest)
sign_far grammar_fault.unsigned n c h rest = rw (too_far n h)
sign_far _ n c h rest = rw (too_far n h)

far_read : {us : List TokenAtColumn} → AreTokensBeforeOffsetNumber us → (n c : ℕ) → 255 < n → (rest : List TokenAtColumn) → reading.read_both_offsets (us ++ number_token_at_column n c ∷ rest) ≡ Err (BadOffset, number_token_at_column n c ∷ rest)
far_read (grammar_fault.first s) n c h rest = rw (sign_far s n c h rest)
far_read (grammar_fault.second {ts = ts} {us = us} d o s) n c h rest =
    rw (append_assoc ts (sign_token_at_column Comma d ∷ us) (number_token_at_column n c ∷ rest), offset_read o (sign_token_at_column Comma d ∷ (us ++ number_token_at_column n c ∷ rest)), sign_far s n c h rest)

pub miscounted_read : (name : List ℕ) (c d : ℕ) (inside : List TokenAtColumn) (f : Function) (xs : ArgumentTerms) → function_with_name name ≡ Some f → AreCalled inside xs → accepts_argument_count f (argument_count xs) ≡ false → (more : List TokenAtColumn)
    → ParserStateReadsAs (Operand (name_token_at_column name c ∷ sign_token_at_column OpenParenthesis d ∷ (inside ++ more))) (Stops BadArguments (name_token_at_column name c ∷ sign_token_at_column OpenParenthesis d ∷ (inside ++ more)))
miscounted_read name c d inside f xs e h a more =
    let from : List TokenAtColumn = name_token_at_column name c ∷ sign_token_at_column OpenParenthesis d
    ∷ (inside ++ more) in
    subst (ParserStateReadsAs (Operand from)) (ap (λ b. outcome_of_checked_call b f xs from more) a) (reading.called f e (is_called_read h more))

pub not_assigned : OpenParenthesis ≡ Assign → ⊥
not_assigned e = cc

-- a call with a wrong number of arguments
abbrev pub bad_call : (ts front inside : List TokenAtColumn) (name : List ℕ) (c d : ℕ) (f : Function) (xs : ArgumentTerms) → ts ≡ front ++ name_token_at_column name c ∷ sign_token_at_column OpenParenthesis d ∷ inside → function_with_name name ≡ Some f → AreCalled inside xs
    → accepts_argument_count f (argument_count xs) ≡ false → Bad BadArguments ts
bad_call ts front inside name c d f xs e u h a = record {
  front = front;
  name = name;
  column = c;
  ends = sign_token_at_column OpenParenthesis d ∷ inside;
  is = e;
  opens = (OpenParenthesis, d, inside, refl, not_assigned);
  stops = λ more. (name_token_at_column name c ∷ sign_token_at_column OpenParenthesis d ∷ (inside ++ more), miscounted_read name c d inside f xs u h a more, inl refl);
  calls = λ _. (d, inside, xs, refl, h);
}

pub bad_of : (kind : CalcKind) (column : ℕ) (b : List TokenAtColumn) (n : TokenAtColumn) → (kind ≡ Expected → ⊥) → NextTokenShowsFault kind column b n → Bad kind (b ++ n ∷ [])
bad_of Expected column b n k t = absurd (k refl)
bad_of UnknownFunction column b n k ((front, name, d, e, u), can) = record {
  front = front;
  name = name;
  column = column;
  ends = sign_token_at_column OpenParenthesis d ∷ [];
  is = e;
  opens = (OpenParenthesis, d, [], refl, not_assigned);
  stops = λ more. (
    name_token_at_column name column ∷ sign_token_at_column OpenParenthesis d
        ∷ more,
    reading.unknown u,
    inl refl,
  );
  calls = λ h. absurd (let x : ⊥ = cc in x);
}
bad_of BadArguments column b n k ((front, inside, name, d, f, xs, e, u, h, a), can) = bad_call (b ++ n ∷ []) front inside name column d f xs e u h a
bad_of BadOffset column b n k ((before, m, e, far, (front, inner, name, c, d, e', h)), can) = record {
  front = front;
  name = name;
  column = c;
  ends = sign_token_at_column OpenBracket d ∷ (inner ++ number_token_at_column m column ∷ []);
  is = e ∙ ap (λ l. l ++ number_token_at_column m column ∷ []) e' ∙ append_assoc front (name_token_at_column name c ∷ sign_token_at_column OpenBracket d ∷ inner) (number_token_at_column m column ∷ []);
  opens = (OpenBracket, d, inner ++ number_token_at_column m column ∷ [], refl, λ h. cc);
  stops = λ more.
      let same : inner ++ number_token_at_column m column ∷ more ≡ (inner ++ number_token_at_column m column ∷ []) ++ more = sym (append_assoc inner (number_token_at_column m column ∷ []) more) in (
        number_token_at_column m column ∷ more,
        subst (λ l. ParserStateReadsAs (Operand (name_token_at_column name c ∷ sign_token_at_column OpenBracket d ∷ l)) (Stops BadOffset (number_token_at_column m column ∷ more))) same
            (subst (ParserStateReadsAs (Operand (name_token_at_column name c ∷ sign_token_at_column OpenBracket d ∷ (inner ++ number_token_at_column m column ∷ more)))) (ap (outcome_after_offsets name c) (far_read h m column far more)) reading.moved),
        inr (refl, (number_token_at_column m column, [], refl)),
      );
  calls = λ h. absurd (let x : ⊥ = cc in x);
}
bad_of _ column b n k t = absurd t

-- no list at the start of the tokens ends in such an error
abbrev pub HasNoBad : List TokenAtColumn → Type 0
HasNoBad l = (kind : CalcKind) (ts : List TokenAtColumn) (bad : Bad kind ts) (m mid : List TokenAtColumn) → l ≡ m ++ name_token_at_column bad.name bad.column ∷ (bad.ends ++ mid) → ⊥

-- tokens that can continue show no error if no list at their start ends in one
pub reports_none : (l : List TokenAtColumn) → CanContinueToAssignment l → HasNoBad l → ShowsNoGrammarFault l
reports_none l can free = λ before rest next kind column e t. go before rest next kind column e t
  where
    other : (before rest : List TokenAtColumn) (next : TokenAtColumn) (kind : CalcKind) (column : ℕ) → l ≡ before ++ next ∷ rest → (kind ≡ Expected → ⊥) → NextTokenShowsFault kind column before next → ⊥
    other before rest next kind column e k t =
        let bad = bad_of kind column before next k t in
        free kind (before ++ next ∷ []) bad bad.front rest
        (e ∙ sym (append_assoc before (next ∷ []) rest) ∙ ap (λ x. x ++ rest) bad.is ∙ append_assoc bad.front (name_token_at_column bad.name bad.column ∷ bad.ends) rest)

    go : (before rest : List TokenAtColumn) (next : TokenAtColumn) (kind : CalcKind) (column : ℕ) → l ≡ before ++ next ∷ rest → NextTokenShowsFault kind column before next → ⊥
    go before rest next Expected column e (c, can', cannot) =
        cannot (can_before (before ++ next ∷ []) rest (subst CanContinueToAssignment (e ∙ sym (append_assoc before (next ∷ []) rest)) can))
    go before rest next kind column e t = other before rest next kind column e (λ k. cc) t

pub none_in_nothing : HasNoBad []
none_in_nothing kind ts bad m mid e = not_nothing m (name_token_at_column bad.name bad.column) (bad.ends ++ mid) e

-- a single token does not end in such an error
pub none_in_one : (s : TokenAtColumn) → HasNoBad (s ∷ [])
none_in_one s kind ts bad [] mid e =
    let f : [] ≡ bad.ends ++ mid = cc in
    let o = bad.opens in
    let g : [] ≡ sign_token_at_column o.0 o.1 ∷ (o.2 ++ mid) = f ∙ ap (λ l. l ++ mid) o.3 in
    cc
none_in_one s kind ts bad (x ∷ m) mid e =
    let f : [] ≡ m ++ name_token_at_column bad.name bad.column ∷ (bad.ends ++ mid) = cc in
    not_nothing m (name_token_at_column bad.name bad.column) (bad.ends ++ mid) f

-- no such error ends within the tokens read before an outcome that continues
none_before : {s : ParserState} {o : ExpressionReadOutcome} (r : ParserStateReadsAs s o) (extra more : List TokenAtColumn) → left o ≡ extra ++ more → ((rest : List TokenAtColumn) → o ≡ Stops BadOffset rest → extra ≡ [])
    → (kind : CalcKind) (ts : List TokenAtColumn) (bad : Bad kind ts) (front m mid : List TokenAtColumn) → (find r).before ≡ front ++ name_token_at_column bad.name bad.column ∷ m → bad.ends ++ mid ≡ m ++ extra → ⊥
none_before {s = s} {o = o} r extra more e far kind ts bad front m mid f g =
    let w = find r in
    let found = w.finds front m bad.name bad.column f in
    let same : bad.ends ++ (mid ++ more) ≡ m ++ left o = sym (append_assoc bad.ends mid more) ∙ ap (λ l. l ++ more) g ∙ append_assoc m extra more ∙ ap (λ l. m ++ l) (sym e) in
    let stop = bad.stops (mid ++ more) in
    let one = one_outcome found.1 (subst (λ l. ParserStateReadsAs (Operand (name_token_at_column bad.name bad.column ∷ l)) (Stops kind stop.0)) same stop.1) in
    let is = found.2 kind stop.0 one in
    at is same stop.2
  where
    at : {rest : List TokenAtColumn} → o ≡ Stops kind rest → bad.ends ++ (mid ++ more) ≡ m ++ left o → StopsAs kind (name_token_at_column bad.name bad.column ∷ (bad.ends ++ (mid ++ more))) (mid ++ more) rest → ⊥
    at {rest = rest} is same (inl h) =
        not_longer (name_token_at_column bad.name bad.column) m (left o) (ap left is ∙ h ∙ ap (λ l. name_token_at_column bad.name bad.column ∷ l) same)
    at {rest = rest} is same (inr (k, (x, y, h))) =
        let none : extra ≡ [] = far rest (is ∙ ap (λ q. Stops q rest) k) in
        let all : left o ≡ more = e ∙ ap (λ l. l ++ more) none in
        not_longer x (y ++ mid) (left o) (ap left is ∙ h ∙ ap (λ l. x ∷ (y ++ (mid ++ l))) (sym all) ∙ ap (λ l. x ∷ l) (sym (append_assoc y mid (left o))))

-- no such error ends after a name and the assignment sign if reading the expression continues
pub none_in_assignment : {s : ParserState} {o : ExpressionReadOutcome} (name : List ℕ) (c d : ℕ) (r : ParserStateReadsAs s o) (extra more : List TokenAtColumn) → left o ≡ extra ++ more → ((rest : List TokenAtColumn) → o ≡ Stops BadOffset rest → extra ≡ []) → HasNoBad extra
    → HasNoBad (name_token_at_column name c ∷ sign_token_at_column Assign d ∷ ((find r).before ++ extra))
none_in_assignment name c d r extra more e far free kind ts bad [] mid f =
    let g : sign_token_at_column Assign d ∷ ((find r).before ++ extra) ≡ bad.ends ++ mid = cc in
    let o = bad.opens in
    let h : sign_token_at_column Assign d ∷ ((find r).before ++ extra) ≡ sign_token_at_column o.0 o.1 ∷ (o.2 ++ mid) = g ∙ ap (λ l. l ++ mid) o.3 in
    let i : sign_token_at_column Assign d ≡ sign_token_at_column o.0 o.1 = cc in
    let j : token.Sign Assign ≡ token.Sign o.0 = ap (λ (x : TokenAtColumn). x.token) i in
    let k : o.0 ≡ Assign = cc in
    o.4 k
none_in_assignment name c d r extra more e far free kind ts bad (x ∷ []) mid f =
    let g : sign_token_at_column Assign d ≡ name_token_at_column bad.name bad.column = cc in
    let h : token.Sign Assign ≡ token.Name bad.name = ap (λ (x : TokenAtColumn). x.token) g in
    cc
none_in_assignment name c d r extra more e far free kind ts bad (x ∷ y ∷ m) mid f =
    let g : (find r).before ++ extra ≡ m ++ name_token_at_column bad.name bad.column ∷ (bad.ends ++ mid) = cc in
    go (stays (find r).before extra m (name_token_at_column bad.name bad.column) (bad.ends ++ mid) g)
  where
    go : Stays (find r).before extra m (name_token_at_column bad.name bad.column) (bad.ends ++ mid) → ⊥
    go (in_first l h i) = none_before r extra more e far kind ts bad m l mid h i
    go (in_second l h i) = free kind ts bad l mid h

-- the arguments of a call end with its closing parenthesis
pub arguments_end : {ts : List TokenAtColumn} {xs : ArgumentTerms} → AreArguments ts xs → (front : List TokenAtColumn) × (d : ℕ) × (ts ≡ front ++ sign_token_at_column CloseParenthesis d ∷ [])
arguments_end (grammar.last {ts = ts} c s) = (ts, c, refl)
arguments_end (grammar.another {ts = ts} c s q) =
    let h = arguments_end q in
    (ts ++ sign_token_at_column Comma c ∷ h.0, h.1, ap (λ l. ts ++ sign_token_at_column Comma c ∷ l) h.2 ∙ sym (append_assoc ts (sign_token_at_column Comma c ∷ h.0) (sign_token_at_column CloseParenthesis h.1 ∷ [])))

pub called_end : {ts : List TokenAtColumn} {xs : ArgumentTerms} → AreCalled ts xs → (front : List TokenAtColumn) × (d : ℕ) × (ts ≡ front ++ sign_token_at_column CloseParenthesis d ∷ [])
called_end (grammar.none {c = c}) = ([], c, refl)
called_end (grammar.some h) = arguments_end h

-- no such error ends within the arguments of a call
pub none_inside : (inside : List TokenAtColumn) (xs : ArgumentTerms) → AreCalled inside xs → HasNoBad inside
none_inside inside xs h kind ts bad m mid e =
    let r = is_called_read h [] in
    let w = find r in
    let same : w.before ≡ inside = append_cancel_right w.before inside [] (sym w.all) in
    none_before r [] [] refl (λ rest k. cc) kind ts bad m (bad.ends ++ mid) mid (same ∙ e) (sym (append-nil (bad.ends ++ mid)))

-- no such error ends in a call without its closing parenthesis
pub none_in_call : (name : List ℕ) (c d : ℕ) (init : List TokenAtColumn) (last : TokenAtColumn) (f : Function) (xs : ArgumentTerms) → function_with_name name ≡ Some f → AreCalled (init ++ last ∷ []) xs → accepts_argument_count f (argument_count xs) ≡ false
    → HasNoBad (name_token_at_column name c ∷ sign_token_at_column OpenParenthesis d ∷ init)
none_in_call name c d init last f xs u h a kind ts bad [] mid e =
    let n : name_token_at_column name c ≡ name_token_at_column bad.name bad.column = cc in
    let g : sign_token_at_column OpenParenthesis d ∷ init ≡ bad.ends ++ mid = cc in
    let all : bad.ends ++ (mid ++ last ∷ []) ≡ sign_token_at_column OpenParenthesis d ∷ ((init ++ last ∷ []) ++ []) =
    sym (append_assoc bad.ends mid (last ∷ [])) ∙ ap (λ l. l ++ last ∷ []) (sym g) ∙ ap (λ l. sign_token_at_column OpenParenthesis d ∷ l) (sym (append-nil (init ++ last ∷ []))) in
    let stop = bad.stops (mid ++ last ∷ []) in
    let own = subst (λ l. ParserStateReadsAs (Operand l) (Stops kind stop.0)) (ap (λ x. x ∷ (bad.ends ++ (mid ++ last ∷ []))) (sym n) ∙ ap (λ l. name_token_at_column name c ∷ l) all) stop.1 in
    let one = one_outcome own (miscounted_read name c d (init ++ last ∷ []) f xs u h a []) in
    let k : kind ≡ BadArguments = cc one in
    again g (bad.calls k)
  where
    again : sign_token_at_column OpenParenthesis d ∷ init ≡ bad.ends ++ mid → (d' : ℕ) × (inside : List TokenAtColumn) × (ys : ArgumentTerms) × (bad.ends ≡ sign_token_at_column OpenParenthesis d' ∷ inside) × AreCalled inside ys → ⊥
    again g (d', inside, ys, i, h') =
        let j : sign_token_at_column OpenParenthesis d ∷ init ≡ sign_token_at_column OpenParenthesis d' ∷ (inside ++ mid) = g ∙ ap (λ l. l ++ mid) i in
        let k : init ≡ inside ++ mid = cc in
        let all : inside ++ (mid ++ last ∷ []) ≡ (init ++ last ∷ []) ++ [] = sym (append_assoc inside mid (last ∷ [])) ∙ ap (λ l. l ++ last ∷ []) (sym k) ∙ sym (append-nil (init ++ last ∷ [])) in
        let one = one_outcome (subst (λ l. ParserStateReadsAs (Called l) (GotAll ys (mid ++ last ∷ []))) all (is_called_read h' (mid ++ last ∷ []))) (is_called_read h []) in
        not_nothing mid last [] (sym (ap left one))
none_in_call name c d init last f xs u h a kind ts bad (x ∷ []) mid e =
    let g : sign_token_at_column OpenParenthesis d ≡ name_token_at_column bad.name bad.column = cc in
    let i : token.Sign OpenParenthesis ≡ token.Name bad.name = ap (λ (x : TokenAtColumn). x.token) g in
    cc
none_in_call name c d init last f xs u h a kind ts bad (x ∷ y ∷ m) mid e =
    let g : init ≡ m ++ name_token_at_column bad.name bad.column ∷ (bad.ends ++ mid) = cc in
    none_inside (init ++ last ∷ []) xs h kind ts bad m (mid ++ last ∷ [])
    (ap (λ l. l ++ last ∷ []) g ∙ append_assoc m (name_token_at_column bad.name bad.column ∷ (bad.ends ++ mid)) (last ∷ []) ∙ ap (λ l. m ++ name_token_at_column bad.name bad.column ∷ l) (append_assoc bad.ends mid (last ∷ [])))
