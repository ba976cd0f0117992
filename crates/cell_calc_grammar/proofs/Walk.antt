-- The place that a list of tokens leads to, which depends only on their shapes.
use Rattle.std.proofs.Common.{◌≡◌, ℕ, ℤ, List, [], ◌∷◌, ◌++◌, Option, Some, None, Bool, true, false, refl, sym, ap, ◌∙◌, subst, ◌⊎◌, inl, inr}
use Rattle.std.proofs.lemmas.List.{map-append}
use Rattle.cell_calc_grammar.specs.declared.operator.Operator.{Operator}
use Rattle.cell_calc_grammar.specs.declared.token.TokenAtColumn.{TokenAtColumn}
use Rattle.cell_calc_grammar.specs.declared.token.Sign.TheVariants.{Plus, Minus, Exclamation, Question, Colon, OpenParenthesis, CloseParenthesis, OpenBracket, CloseBracket, Comma, Assign}
use Rattle.cell_calc_grammar.specs.declared.token.Token.{Token}
use Rattle.cell_calc_grammar.specs.declared.token.Token.TheVariants as token
use Rattle.cell_calc_grammar.specs.Grammar as grammar
use Rattle.cell_calc_grammar.specs.Grammar.{TokensDenoteOffset, TokensDenoteRowAndColumnOffsets, Stands, IsExpression, AreCalled, AreArguments, below, joined, choice}
use Rattle.cell_calc_grammar.specs.Operator.{operator_of_token}
use Rattle.cell_calc_grammar.specs.TokensRead.{TokenShowsMapWithoutOffsets}
use Rattle.cell_calc_grammar.specs.Shape.{token_without_value, tokens_without_values}
use Rattle.cell_calc_grammar.specs.Term.{Term, ArgumentTerms}
use Rattle.cell_calc_grammar.specs.Token.{sign_token_at_column}

-- an open part around the place
pub data Frame : Type 0 where
  Parenthesis : Frame
  Argument : Frame
  Choosing : Frame

-- the tokens that may come next, and the open parts
pub data Place : Type 0 where
  Start : Place
  Target : Place
  Operand : (st : List Frame) → Place
  Opened : (st : List Frame) → Place
  Named : (st : List Frame) → Place
  After : (st : List Frame) → Place
  Offset : (second : Bool) (st : List Frame) → Place
  Signed : (second : Bool) (st : List Frame) → Place
  Between : (second : Bool) (st : List Frame) → Place

-- the place after a token where an operand may begin
abbrev pub operand_step : List Frame → Token → Option Place
operand_step st (token.Number n) = Some (After st)
operand_step st (token.Name n) = Some (Named st)
operand_step st (token.Sign Minus) = Some (Operand st)
operand_step st (token.Sign Exclamation) = Some (Operand st)
operand_step st (token.Sign OpenParenthesis) = Some (Operand (Parenthesis ∷ st))
operand_step st _ = None

-- the place after a token that ends an expression, given the open parts
abbrev pub ends_step : List Frame → Token → Option Place
ends_step (Parenthesis ∷ st) (token.Sign CloseParenthesis) = Some (After st)
ends_step (Argument ∷ st) (token.Sign CloseParenthesis) = Some (After st)
ends_step (Argument ∷ st) (token.Sign Comma) = Some (Operand (Argument ∷ st))
ends_step (Choosing ∷ st) (token.Sign Colon) = Some (Operand st)
ends_step _ _ = None

abbrev pub asks_step : List Frame → Token → Option Place
asks_step st (token.Sign Question) = Some (Operand (Choosing ∷ st))
asks_step st t = ends_step st t

abbrev pub joins_step : List Frame → Token → Option Operator → Option Place
joins_step st t (Some op) = Some (Operand st)
joins_step st t None = asks_step st t

-- the place after a token that follows an operand
abbrev pub after_step : List Frame → Token → Option Place
after_step st t = joins_step st t (operator_of_token t)

-- the place after the next token
abbrev pub step : Place → Token → Option Place
step Start (token.Name n) = Some Target
step Target (token.Sign Assign) = Some (Operand [])
step (Operand st) t = operand_step st t
step (Opened st) (token.Sign CloseParenthesis) = Some (After st)
step (Opened st) t = operand_step (Argument ∷ st) t
step (Named st) (token.Sign OpenParenthesis) = Some (Opened st)
step (Named st) (token.Sign OpenBracket) = Some (Offset false st)
step (Named st) t = after_step st t
step (After st) t = after_step st t
step (Offset second st) (token.Number n) = Some (Between second st)
step (Offset second st) (token.Sign Minus) = Some (Signed second st)
step (Offset second st) (token.Sign Plus) = Some (Signed second st)
step (Signed second st) (token.Number n) = Some (Between second st)
step (Between false st) (token.Sign Comma) = Some (Offset true st)
step (Between true st) (token.Sign CloseBracket) = Some (After st)
step _ _ = None

abbrev pub step_on : Option Place → Token → Option Place
step_on None t = None
step_on (Some p) t = step p t

-- the place after some tokens
abbrev pub walk : Option Place → List Token → Option Place
walk p [] = p
walk p (t ∷ ts) = walk (step_on p t) ts

pub walk_append : (p : Option Place) (ts us : List Token) → walk p (ts ++ us) ≡ walk (walk p ts) us
walk_append p [] us = refl
walk_append p (t ∷ ts) us = walk_append (step_on p t) ts us

pub walk_none : (ts : List Token) → walk None ts ≡ None
walk_none [] = refl
walk_none (t ∷ ts) = walk_none ts

pub shape_append : (ts us : List TokenAtColumn) → tokens_without_values (ts ++ us) ≡ tokens_without_values ts
    ++ tokens_without_values us
shape_append ts us = map-append (λ s. token_without_value s.token) ts us

-- the place after two lists of tokens is reached by one list and then the other
pub walk_both : (p : Option Place) (ts us : List TokenAtColumn) → walk p (tokens_without_values (ts ++ us)) ≡ walk (walk p (tokens_without_values ts)) (tokens_without_values us)
walk_both p ts us = ap (walk p) (shape_append ts us) ∙ walk_append p (tokens_without_values ts)
    (tokens_without_values us)

-- an operand has ended at the place
abbrev pub Lands : List Frame → Option Place → Type 0
Lands st p = (p ≡ Some (After st)) ⊎ (p ≡ Some (Named st))

pub named_alone : (st : List Frame) (t : Token) → TokenShowsMapWithoutOffsets (Some t)
    → step (Named st) t ≡ after_step st t
named_alone st (token.Sign OpenParenthesis) n = absurd (n.0 refl)
named_alone st (token.Sign OpenBracket) n = absurd (n.1 refl)
named_alone st _ n = refl

-- after an operand, a token that opens nothing leads on
pub landed : (st : List Frame) (p : Option Place) (t : Token) → Lands st p → TokenShowsMapWithoutOffsets (Some t) → step_on p t ≡ after_step st t
landed st p t (inl e) n = ap (λ q. step_on q t) e
landed st p t (inr e) n = ap (λ q. step_on q t) e ∙ named_alone st t n

-- wherever an operand may begin, the tokens form an operand or more
abbrev pub Makes : List TokenAtColumn → Type 0
Makes ts = (st : List Frame) → Lands st (walk (Some (Operand st)) (tokens_without_values ts))

pub offset_makes : {ts : List TokenAtColumn} {z : ℤ} (second : Bool) (st : List Frame) → TokensDenoteOffset ts z → walk (Some (Offset second st)) (tokens_without_values ts) ≡ Some (Between second st)
offset_makes second st (grammar.TokensDenoteOffset.plain h) = refl
offset_makes second st _ = refl

-- the first offset and the comma lead to the second offset
pub comma_makes : {ts : List TokenAtColumn} {z : ℤ} (st : List Frame) (c : ℕ) (us : List TokenAtColumn)
    → TokensDenoteOffset ts z
    → walk (Some (Offset false st)) (tokens_without_values (ts ++ sign_token_at_column Comma c ∷ us))
    ≡ walk (Some (Offset true st)) (tokens_without_values us)
comma_makes {ts = ts} st c us h =
    walk_both (Some (Offset false st)) ts (sign_token_at_column Comma c ∷ us)
    ∙ ap (λ p. walk p (tokens_without_values (sign_token_at_column Comma c ∷ us))) (offset_makes false st h)

pub offsets_make : {ts : List TokenAtColumn} {down right : ℤ} (st : List Frame)
    → TokensDenoteRowAndColumnOffsets ts down right
    → walk (Some (Offset false st)) (tokens_without_values ts) ≡ Some (After st)
offsets_make st (grammar.offsets {ts = ts} {us = us} c d h g) =
    comma_makes st c (us ++ sign_token_at_column CloseBracket d ∷ []) h
    ∙ walk_both (Some (Offset true st)) us (sign_token_at_column CloseBracket d ∷ [])
    ∙ ap (λ p. walk p (tokens_without_values (sign_token_at_column CloseBracket d ∷ []))) (offset_makes true st g)

-- after tokens that form an operand, another token continues
pub then_walk : (st : List Frame) (p : Option Place) (ts us : List TokenAtColumn) (s : TokenAtColumn) (q : Option Place) → Lands st (walk p (tokens_without_values ts)) → TokenShowsMapWithoutOffsets (Some (token_without_value s.token)) → after_step st (token_without_value s.token) ≡ q
    → walk p (tokens_without_values (ts ++ s ∷ us)) ≡ walk q (tokens_without_values us)
then_walk st p ts us s q l n e =
    walk_both p ts (s ∷ us) ∙ ap (λ x. walk x (tokens_without_values us))
    (landed st (walk p (tokens_without_values ts)) (token_without_value s.token) l n ∙ e)

-- the shape of a token is the same operator as the token
pub operator_shape : (t : Token) → operator_of_token (token_without_value t) ≡ operator_of_token t
operator_shape (token.Number n) = refl
operator_shape _ = refl

pub operator_after : (st : List Frame) (t : Token) (op : Operator) → operator_of_token t ≡ Some op → after_step st (token_without_value t) ≡ Some (Operand st)
operator_after st t op e = ap (joins_step st (token_without_value t)) (operator_shape t ∙ e)

-- an operator opens no part
pub operator_alone : (t : Token) (op : Operator) → operator_of_token t ≡ Some op → TokenShowsMapWithoutOffsets (Some t)
operator_alone (token.Sign OpenParenthesis) op e = absurd (let h : ⊥ = cc in h)
operator_alone (token.Sign OpenBracket) op e = absurd (let h : ⊥ = cc in h)
operator_alone _ op e = (λ h. cc, λ h. cc)

-- arguments that are walked from the first argument on are also walked from the opening parenthesis
pub opened_walk : (st : List Frame) (ts : List Token) → walk (Some (Operand (Argument ∷ st))) ts ≡ Some (After st) → walk (Some (Opened st)) ts ≡ Some (After st)
opened_walk st [] e = absurd (let h : ⊥ = cc in h)
opened_walk st (token.Sign CloseParenthesis ∷ ts) e =
    let n = walk_none ts in
    absurd (let h : ⊥ = cc in h)
opened_walk st (t ∷ ts) e = e

mutual
  pub stands_makes : {k : ℕ} {ts : List TokenAtColumn} {a : Term} → Stands k ts a → Makes ts
  stands_makes grammar.number st = inl refl
  stands_makes grammar.map st = inr refl
  stands_makes (grammar.moved h) st = inl (offsets_make st h)
  stands_makes (grammar.called {ts = ts} f e a s) st = inl (called_walks s st)
  stands_makes (grammar.negated s) st = stands_makes s st
  stands_makes (grammar.not s) st = stands_makes s st
  stands_makes (grammar.inside {c = c} {ts = ts} d s) st =
      inl (then_walk (Parenthesis ∷ st) (Some (Operand (Parenthesis ∷ st))) ts [] (sign_token_at_column CloseParenthesis d) (Some (After st)) (expression_makes s (Parenthesis ∷ st)) (λ e. cc, λ e. cc) refl)
  stands_makes (below s) st = stands_makes s st
  stands_makes (joined {ts = ts} {us = us} s op e l sa sb) st =
      subst (Lands st) (sym (then_walk st (Some (Operand st)) ts us s (Some (Operand st)) (stands_makes sa st) (operator_alone (token_without_value s.token) op (operator_shape s.token ∙ e)) (operator_after st s.token op e))) (stands_makes sb st)

  pub expression_makes : {ts : List TokenAtColumn} {a : Term} → IsExpression ts a → Makes ts
  expression_makes (grammar.IsExpression.plain s) st = stands_makes s st
  expression_makes (choice {ts = ts} {us = us} {vs = vs} c d s t u) st =
      let first = then_walk st (Some (Operand st)) ts (us ++ sign_token_at_column Colon d ∷ vs) (sign_token_at_column Question c) (Some (Operand (Choosing ∷ st))) (stands_makes s st) (λ e. cc, λ e. cc) refl in
      let second = then_walk (Choosing ∷ st) (Some (Operand (Choosing ∷ st))) us vs (sign_token_at_column Colon d) (Some (Operand st)) (expression_makes t (Choosing ∷ st)) (λ e. cc, λ e. cc) refl in
      subst (Lands st) (sym (first ∙ second)) (expression_makes u st)

  pub called_walks : {ts : List TokenAtColumn} {xs : ArgumentTerms} → AreCalled ts xs → (st : List Frame) → walk (Some (Opened st)) (tokens_without_values ts) ≡ Some (After st)
  called_walks grammar.none st = refl
  called_walks (grammar.some {ts = ts} s) st = opened_walk st (tokens_without_values ts) (arguments_walk s st)

  pub arguments_walk : {ts : List TokenAtColumn} {xs : ArgumentTerms} → AreArguments ts xs → (st : List Frame) → walk (Some (Operand (Argument ∷ st))) (tokens_without_values ts) ≡ Some (After st)
  arguments_walk (grammar.last {ts = ts} c s) st =
      then_walk (Argument ∷ st) (Some (Operand (Argument ∷ st))) ts [] (sign_token_at_column CloseParenthesis c) (Some (After st)) (expression_makes s (Argument ∷ st)) (λ e. cc, λ e. cc) refl
  arguments_walk (grammar.another {ts = ts} {us = us} c s q) st =
      then_walk (Argument ∷ st) (Some (Operand (Argument ∷ st))) ts us (sign_token_at_column Comma c) (Some (Operand (Argument ∷ st))) (expression_makes s (Argument ∷ st)) (λ e. cc, λ e. cc) refl ∙ arguments_walk q st
