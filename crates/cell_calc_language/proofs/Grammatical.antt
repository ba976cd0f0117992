-- Tokens that stand for an expression stand for a grammatical one.
use Rattle.std.proofs.Common.{◌≡◌, ◌≤◌, ℕ, zero, suc, ℤ, pos, neg_ℤ, List, [], ◌∷◌, ◌++◌, refl, subst, arith}
use Rattle.cell_calc_grammar.specs.declared.token.TokenAtColumn.{TokenAtColumn}
use Rattle.cell_calc_grammar.specs.declared.token.Sign.TheVariants.{Question, Colon, CloseParenthesis, Comma, Assign}
use Rattle.cell_calc_grammar.specs.declared.token.Token.{Token}
use Rattle.cell_calc_grammar.specs.declared.token.Token.TheVariants as token
use Rattle.cell_calc_grammar.specs.Grammar as grammar
use Rattle.cell_calc_grammar.specs.Grammar.{TokensDenoteOffset, TokensDenoteRowAndColumnOffsets, Stands, IsExpression, AreCalled, AreArguments, below, joined, choice}
use Rattle.cell_calc_language.specs.Grammatical.{cell_count_up_or_left, cell_count_down_or_right, IsGrammatical}
use Rattle.cell_calc_language.specs.Grammatical.{AreGrammatical}
use Rattle.cell_calc_grammar.specs.TokensRead.{Got, Expression, ParserStateReadsAs}
use Rattle.cell_calc_grammar.specs.TokenSpelling as spelling
use Rattle.cell_calc_grammar.specs.TokenSpelling.{SpellsToken, TextSpellsTokens}
use Rattle.cell_calc_grammar.specs.Term.{Term, ArgumentTerms}
use Rattle.cell_calc_grammar.specs.Token.{sign_token_at_column, name_token_at_column, NumberTokenIsCategory}
use Rattle.cell_calc_grammar.specs.Token.{NumberTokensAreCategories}
use Rattle.cell_calc_language.proofs.Faults.{Begins, begins_is}
use Rattle.cell_calc_grammar.proofs.Sound.{sound_all}

both : (ts us : List TokenAtColumn) → NumberTokensAreCategories (ts ++ us) → NumberTokensAreCategories ts
    × NumberTokensAreCategories us
both [] us h = (tt, h)
both (s ∷ ts) us h = let rest = both ts us h.1 in ((h.0, rest.0), rest.1)

-- an offset moves by at most 255 rows or columns
abbrev IsNear : ℤ → Type 0
IsNear z = (cell_count_up_or_left z ≤ 255) × (cell_count_down_or_right z ≤ 255)

negative_near : (n : ℕ) → n ≤ 255 → IsNear (neg_ℤ (pos n))
negative_near zero h = (omega arith, omega arith)
negative_near (suc n) h = (h, omega arith)

offset_near : {ts : List TokenAtColumn} {z : ℤ} → TokensDenoteOffset ts z → IsNear z
offset_near (grammar.TokensDenoteOffset.plain h) = (omega arith, h)
offset_near (grammar.minus {n = n} h) = negative_near n h
offset_near (grammar.plus h) = (omega arith, h)

offsets_near : {ts : List TokenAtColumn} {down right : ℤ} → TokensDenoteRowAndColumnOffsets ts down right
    → (cell_count_up_or_left down ≤ 255) × ((cell_count_down_or_right down ≤ 255) × ((cell_count_up_or_left right ≤ 255)
    × (cell_count_down_or_right right ≤ 255)))
offsets_near (grammar.offsets c d h g) =
    let down = offset_near h in
    let right = offset_near g in
    (down.0, (down.1, (right.0, right.1)))

mutual
  stands_grammatical : {k : ℕ} {ts : List TokenAtColumn} {a : Term} → Stands k ts a → NumberTokensAreCategories ts
      → IsGrammatical a
  stands_grammatical grammar.number h = h.0
  stands_grammatical grammar.map h = (omega arith, (omega arith, (omega arith, omega arith)))
  stands_grammatical (grammar.moved s) h = offsets_near s
  stands_grammatical (grammar.called f e a s) h = (a, called_grammatical s h.1.1)
  stands_grammatical (grammar.negated s) h = stands_grammatical s h.1
  stands_grammatical (grammar.not s) h = stands_grammatical s h.1
  stands_grammatical (grammar.inside {ts = ts} d s) h = expression_grammatical s (both ts (sign_token_at_column CloseParenthesis d ∷ []) h.1).0
  stands_grammatical (below s) h = stands_grammatical s h
  stands_grammatical (joined {ts = ts} {us = us} s op e l sa sb) h =
      let parts = both ts (s ∷ us) h in
      (stands_grammatical sa parts.0, stands_grammatical sb parts.1.1)

  pub expression_grammatical : {ts : List TokenAtColumn} {a : Term} → IsExpression ts a → NumberTokensAreCategories ts
      → IsGrammatical a
  expression_grammatical (grammar.IsExpression.plain s) h = stands_grammatical s h
  expression_grammatical (choice {ts = ts} {us = us} {vs = vs} c d s t u) h =
      let parts = both ts (sign_token_at_column Question c ∷ (us ++ sign_token_at_column Colon d ∷ vs)) h in
      let after = both us (sign_token_at_column Colon d ∷ vs) parts.1.1 in
      (refl, (stands_grammatical s parts.0, (expression_grammatical t after.0, (expression_grammatical u after.1.1, tt))))

  called_grammatical : {ts : List TokenAtColumn} {xs : ArgumentTerms} → AreCalled ts xs → NumberTokensAreCategories ts
      → AreGrammatical xs
  called_grammatical grammar.none h = tt
  called_grammatical (grammar.some s) h = arguments_grammatical s h

  arguments_grammatical : {ts : List TokenAtColumn} {xs : ArgumentTerms} → AreArguments ts xs
      → NumberTokensAreCategories ts
      → AreGrammatical xs
  arguments_grammatical (grammar.last {ts = ts} c s) h = (expression_grammatical s (both ts (sign_token_at_column CloseParenthesis c ∷ []) h).0, tt)
  arguments_grammatical (grammar.another {ts = ts} {us = us} c s q) h =
      let parts = both ts (sign_token_at_column Comma c ∷ us) h in
      (expression_grammatical s parts.0, arguments_grammatical q parts.1.1)

-- an expression that is read to the end of an assignment is grammatical
pub read_grammatical : (name : List ℕ) (ts us : List TokenAtColumn) (a : Term) (left : List TokenAtColumn) → NumberTokensAreCategories ts → Begins name ts us → left ≡ []
    → ParserStateReadsAs (Expression us) (Got a left) → IsGrammatical a
read_grammatical name ts us a left all h f r =
    let b = begins_is name ts us h in
    let begun : NumberTokensAreCategories (name_token_at_column name b.0 ∷ sign_token_at_column Assign b.1
    ∷ us) = subst NumberTokensAreCategories b.2 all in
    expression_grammatical (sound_all us a (subst (λ l. ParserStateReadsAs (Expression us) (Got a l)) f r)) begun.1.1

spells_category : (bytes : List ℕ) (t : Token) → SpellsToken bytes t → NumberTokenIsCategory t
spells_category bytes (token.Number n) is = is.3
spells_category bytes _ is = tt

-- the numbers that a text spells are categories
pub spelled_categories : {c : ℕ} {text : List ℕ} {ts : List TokenAtColumn} → TextSpellsTokens c text ts
    → NumberTokensAreCategories ts
spelled_categories spelling.ends = tt
spelled_categories (spelling.blank is rest) = spelled_categories rest
spelled_categories (spelling.token t bytes is long rest) = (spells_category bytes t is, spelled_categories rest)
