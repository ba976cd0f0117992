-- A list of tokens has at most one first error, and it has one unless it stands for an assignment.
use Rattle.std.proofs.Common.{◌≡◌, ℕ, List, [], ◌∷◌, ◌++◌, refl, sym, ap, ◌∙◌, subst, append_assoc, append-nil, ◌⊎◌, inl, inr}
use Rattle.cell_calc_language.specs.declared.assignment.Assignment.{Assignment}
use Rattle.cell_calc_grammar.specs.declared.calc_fault.CalcFault.{CalcFault}
use Rattle.cell_calc_grammar.specs.declared.calc_fault.CalcKind.{CalcKind}
use Rattle.cell_calc_grammar.specs.declared.calc_fault.CalcKind.TheVariants.{Expected, UnknownFunction, Arguments as BadArguments, BadOffset}
use Rattle.cell_calc_grammar.specs.declared.token.TokenAtColumn.{TokenAtColumn}
use Rattle.cell_calc_grammar.specs.declared.token.Sign.TheVariants.{OpenParenthesis, CloseParenthesis, Assign}
use Rattle.cell_calc_grammar.specs.declared.token.Token.{Token}
use Rattle.cell_calc_grammar.specs.declared.token.Token.TheVariants as token
use Rattle.cell_calc_language.specs.Assignment.{AreTokensOfAssignment}
use Rattle.cell_calc_grammar.specs.Grammar.{AreCalled}
use Rattle.cell_calc_language.specs.GrammarFault.{CanContinueToAssignment, first_token_column_or_end, EndsWithUnknownFunction, EndsWithWrongArgumentCount, EndsWithTooFarOffset, NextTokenShowsFault, IsGrammarFault}
use Rattle.cell_calc_grammar.specs.TokensRead.{ExpressionReadOutcome, Got, GotAll, Stops, Expression}
use Rattle.cell_calc_grammar.specs.TokensRead.{ParserStateReadsAs}
use Rattle.cell_calc_grammar.specs.Term.{ArgumentTerms}
use Rattle.cell_calc_grammar.specs.Token.{number_token_at_column, name_token_at_column, sign_token_at_column}
use Rattle.cell_calc_grammar.specs.Tokens.{token_fault}
use Rattle.cell_calc_language.proofs.Bad.{Bad, bad_call, called_end, none_inside}
use Rattle.cell_calc_language.proofs.Faults.{no_name, no_assign, nothing_at_all, stops, goes_on}
use Rattle.cell_calc_grammar.proofs.Sound.{Looks, NoToken, ANumber, AName, ASign, look, sound, sound_all}
use Rattle.cell_calc_grammar.proofs.Splits.{Cuts, same, before, behind, cuts, same_ends}
use Rattle.cell_calc_language.proofs.Total.{read_somehow}

same_fault : (f g : CalcFault) → f.kind ≡ g.kind → f.column ≡ g.column → f ≡ g
same_fault f g e h =
    let kind : f ≡ record f { kind = g.kind } = ap (λ k. let x : CalcFault = record f { kind = k } in x) e in
    kind ∙ ap (λ c. let x : CalcFault = record { kind = g.kind; column = c } in x) h

same_column : (s t : TokenAtColumn) → s ≡ t → s.column ≡ t.column
same_column s t e = ap (λ (x : TokenAtColumn). x.column) e

same_token : (s t : TokenAtColumn) → s ≡ t → s.token ≡ t.token
same_token s t e = ap (λ (x : TokenAtColumn). x.token) e

unknown_last : (column : ℕ) (b : List TokenAtColumn) (n : TokenAtColumn) → EndsWithUnknownFunction column (b ++ n ∷ []) → n.token ≡ token.Sign OpenParenthesis
unknown_last column b n (front, name, d, e, u) =
    same_token n (sign_token_at_column OpenParenthesis d) (same_ends b n (front ++ name_token_at_column name column ∷ []) (sign_token_at_column OpenParenthesis d) (e ∙ sym (append_assoc front (name_token_at_column name column ∷ []) (sign_token_at_column OpenParenthesis d ∷ [])))).1

miscounted_last : (column : ℕ) (b : List TokenAtColumn) (n : TokenAtColumn) → EndsWithWrongArgumentCount column (b ++ n ∷ []) → n.token ≡ token.Sign CloseParenthesis
miscounted_last column b n (front, inside, name, d, f, xs, e, u, h, a) =
    let z = called_end h in
    let call : List TokenAtColumn = name_token_at_column name column ∷ sign_token_at_column OpenParenthesis d ∷ z.0 in
    same_token n (sign_token_at_column CloseParenthesis z.1) (same_ends b n (front
    ++ call) (sign_token_at_column CloseParenthesis z.1)
    (e ∙ ap (λ l. front ++ name_token_at_column name column ∷ sign_token_at_column OpenParenthesis d ∷ l) z.2 ∙ sym (append_assoc front call (sign_token_at_column CloseParenthesis z.1 ∷ [])))).1

far_last : (column : ℕ) (b : List TokenAtColumn) (n : TokenAtColumn) → EndsWithTooFarOffset column (b ++ n ∷ []) → (m : ℕ) × (n ≡ number_token_at_column m column)
far_last column b n (front, m, e, far, inside) = (m, (same_ends b n front (number_token_at_column m column) e).1)

one_unknown : (c c' : ℕ) (read : List TokenAtColumn) → EndsWithUnknownFunction c read
    → EndsWithUnknownFunction c' read → c ≡ c'
one_unknown c c' read (front, name, d, e, u) (front', name', d', e', u') =
    let last = same_ends (front ++ name_token_at_column name c ∷ []) (sign_token_at_column OpenParenthesis d) (front' ++ name_token_at_column name' c' ∷ []) (sign_token_at_column OpenParenthesis d')
    (append_assoc front (name_token_at_column name c ∷ []) (sign_token_at_column OpenParenthesis d ∷ []) ∙ sym e ∙ e'
    ∙ sym (append_assoc front' (name_token_at_column name' c' ∷ []) (sign_token_at_column OpenParenthesis d' ∷ []))) in
    same_column (name_token_at_column name c) (name_token_at_column name' c') (same_ends front (name_token_at_column name c) front' (name_token_at_column name' c') last.0).1

-- no call that ends after its closing parenthesis begins within its own arguments
not_within : (c d : ℕ) (inside : List TokenAtColumn) (xs : ArgumentTerms) → AreCalled inside xs → (ts : List TokenAtColumn) (bad : Bad BadArguments ts) (m : List TokenAtColumn) → sign_token_at_column OpenParenthesis d ∷ inside ≡ m ++ name_token_at_column bad.name bad.column ∷ bad.ends → ⊥
not_within c d inside xs h ts bad [] e =
    let f : sign_token_at_column OpenParenthesis d ≡ name_token_at_column bad.name bad.column = cc in
    let g = same_token (sign_token_at_column OpenParenthesis d) (name_token_at_column bad.name bad.column) f in
    cc
not_within c d inside xs h ts bad (x ∷ m) e =
    let f : inside ≡ m ++ name_token_at_column bad.name bad.column ∷ bad.ends = cc in
    none_inside inside xs h BadArguments ts bad m [] (f ∙ ap (λ l. m ++ name_token_at_column bad.name bad.column ∷ l) (sym (append-nil bad.ends)))

one_miscounted : (c c' : ℕ) (b : List TokenAtColumn) (n : TokenAtColumn) → NextTokenShowsFault BadArguments c b n → NextTokenShowsFault BadArguments c' b n → c ≡ c'
one_miscounted c c' b n ((front, inside, name, d, f, xs, e, u, h, a), can) ((front', inside', name', d', f', xs', e', u', h', a'), can') =
    go (cuts front (name_token_at_column name c) (sign_token_at_column OpenParenthesis d ∷ inside) front' (name_token_at_column name' c') (sign_token_at_column OpenParenthesis d' ∷ inside') (sym e ∙ e'))
  where
    go : Cuts front (name_token_at_column name c) (sign_token_at_column OpenParenthesis d ∷ inside) front' (name_token_at_column name' c') (sign_token_at_column OpenParenthesis d' ∷ inside') → c ≡ c'
    go (same i j k) = same_column (name_token_at_column name c) (name_token_at_column name' c') j
    go (before m i j) = absurd (not_within c d inside xs h (b ++ n ∷ []) (bad_call (b ++ n ∷ []) front' inside' name' c' d' f' xs' e' u' h' a') m j)
    go (behind m i j) = absurd (not_within c' d' inside' xs' h' (b ++ n ∷ []) (bad_call (b ++ n ∷ []) front inside name c d f xs e u h a) m j)

-- the kind of error that a token shows if all tokens up to it can continue
abbrev reported_by : Token → CalcKind
reported_by (token.Sign OpenParenthesis) = UnknownFunction
reported_by (token.Sign _) = BadArguments
reported_by _ = BadOffset

reported_so : (k : CalcKind) (c : ℕ) (b : List TokenAtColumn) (n : TokenAtColumn) → NextTokenShowsFault k c b n
    → ((k ≡ Expected) × (CanContinueToAssignment (b ++ n ∷ []) → ⊥)) ⊎ ((k ≡ reported_by n.token)
    × CanContinueToAssignment (b ++ n ∷ []))
reported_so Expected c b n t = inl (refl, t.2)
reported_so UnknownFunction c b n t = inr (sym (ap reported_by (unknown_last c b n t.0)), t.1)
reported_so BadArguments c b n t = inr (sym (ap reported_by (miscounted_last c b n t.0)), t.1)
reported_so BadOffset c b n t = inr (sym (ap (λ (x : TokenAtColumn). reported_by x.token) (far_last c b n t.0).1), t.1)
reported_so _ c b n t = absurd t

one_kind : (k k' : CalcKind) (c c' : ℕ) (b : List TokenAtColumn) (n : TokenAtColumn) → NextTokenShowsFault k c b n
    → NextTokenShowsFault k' c' b n → k ≡ k'
one_kind k k' c c' b n t t' = go (reported_so k c b n t) (reported_so k' c' b n t')
  where
    go : ((k ≡ Expected) × (CanContinueToAssignment (b ++ n ∷ []) → ⊥)) ⊎ ((k ≡ reported_by n.token)
        × CanContinueToAssignment (b ++ n ∷ []))
        → ((k' ≡ Expected) × (CanContinueToAssignment (b ++ n ∷ []) → ⊥)) ⊎ ((k' ≡ reported_by n.token)
        × CanContinueToAssignment (b ++ n ∷ []))
        → k ≡ k'
    go (inl x) (inl y) = x.0 ∙ sym y.0
    go (inl x) (inr y) = absurd (x.1 y.1)
    go (inr x) (inl y) = absurd (y.1 x.1)
    go (inr x) (inr y) = x.0 ∙ sym y.0

one_place : (k : CalcKind) (c c' : ℕ) (b : List TokenAtColumn) (n : TokenAtColumn) → NextTokenShowsFault k c b n
    → NextTokenShowsFault k c' b n → c ≡ c'
one_place Expected c c' b n t t' = sym t.0 ∙ t'.0
one_place UnknownFunction c c' b n t t' = one_unknown c c' (b ++ n ∷ []) t.0 t'.0
one_place BadArguments c c' b n t t' = one_miscounted c c' b n t t'
one_place BadOffset c c' b n t t' =
    let f = far_last c b n t.0 in
    let g = far_last c' b n t'.0 in
    sym (same_column n (number_token_at_column f.0 c) f.1) ∙ same_column n (number_token_at_column g.0 c') g.1
one_place _ c c' b n t t' = absurd t

pub one_fault : (end : ℕ) (ts : List TokenAtColumn) (f g : CalcFault) → IsGrammarFault end ts f → IsGrammarFault end ts g → f ≡ g
one_fault end ts f g (inl (b, r, n, e, t, none), _) (inl (b', r', n', e', t', none'), _) = go (cuts b n r b' n' r' (sym e ∙ e'))
  where
    go : Cuts b n r b' n' r' → f ≡ g
    go (same h i j) =
        let s = subst (λ x. NextTokenShowsFault f.kind f.column b' x) i
        (subst (λ l. NextTokenShowsFault f.kind f.column l n) h t) in
        let kind = one_kind f.kind g.kind f.column g.column b' n' s t' in
        same_fault f g kind (one_place g.kind f.column g.column b' n'
        (subst (λ k. NextTokenShowsFault k f.column b' n') kind s) t')
    go (before m h i) = absurd (none' b m n f.kind f.column h t)
    go (behind m h i) = absurd (none b' m n' g.kind g.column h t')
one_fault end ts f g (inl (b, r, n, e, t, none), _) (inr (e', can, none'), _) = absurd (none' b r n f.kind f.column e t)
one_fault end ts f g (inr (e, can, none), _) (inl (b', r', n', e', t', none'), _) = absurd (none b' r' n' g.kind g.column e' t')
one_fault end ts f g (inr (e, can, none), _) (inr (e', can', none'), _) = e ∙ sym e'

-- the list stands for an assignment, or has an error
abbrev pub IsJudged : ℕ → List TokenAtColumn → Type 0
IsJudged end ts = ((a : Assignment) × AreTokensOfAssignment ts a) ⊎ ((reported : CalcFault)
    × IsGrammarFault end ts reported)

judged_read : (end : ℕ) (name : List ℕ) (c d : ℕ) (us : List TokenAtColumn) (o : ExpressionReadOutcome) → ParserStateReadsAs (Expression us) o → IsJudged end (name_token_at_column name c ∷ sign_token_at_column Assign d ∷ us)
judged_read end name c d us (Got a []) r =
    let x : Assignment = record { target = name; expr = a } in
    inl (x, (c, d, us, refl, sound_all us a r))
judged_read end name c d us (Got a (u ∷ rest)) r = inr (token_fault Expected u.column, goes_on end name c d us a u rest r)
judged_read end name c d us (GotAll xs rest) r = absurd (sound r)
judged_read end name c d us (Stops kind rest) r = inr (token_fault kind (first_token_column_or_end end rest), stops end name c d us kind rest r)

judged_named : (end : ℕ) (name : List ℕ) (c : ℕ) {ts : List TokenAtColumn} → Looks ts
    → IsJudged end (name_token_at_column name c ∷ ts)
judged_named end name c (ASign Assign d us) = let x = read_somehow us in judged_read end name c d us x.0 x.1
judged_named end name c {ts = ts} _ = inr (
  token_fault Expected
      (first_token_column_or_end end ts),
  no_assign end name c ts (λ k. cc),
)

pub each_judged : (end : ℕ) (ts : List TokenAtColumn) → IsJudged end ts
each_judged end ts = go (look ts)
  where
    go : {us : List TokenAtColumn} → Looks us → IsJudged end us
    go NoToken = inr (token_fault Expected end, nothing_at_all end)
    go (AName name c us) = judged_named end name c (look us)
    go (ANumber m c us) = inr (token_fault Expected c, no_name end (number_token_at_column m c) us (λ name k. cc))
    go (ASign s c us) = inr (token_fault Expected c, no_name end (sign_token_at_column s c) us (λ name k. cc))
