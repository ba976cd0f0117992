-- The tokens of a text are spelled in it, and there are at most 1000.
use Rattle.std.proofs.Common.{◌≡◌, ℕ, zero, suc, ◌+◌, ◌<◌, ◌≤◌, Bool, true, false, nat_le, List, [], ◌∷◌, ◌++◌, length, take, drop, refl, ap, sym, ◌∙◌, arith, subst, Option, Some, None, Result, Ok, Err, inl, inr, length-take-le, take-append-drop, ◌⊎◌}
use Rattle.std.specs.List.{list_all}
use Rattle.std.specs.Prelude.{nat_lt, if◌then◌else◌}
use Rattle.std.proofs.lemmas.Bool.Decides.{nat_tests}
use Rattle.std.specs.Option.{option_map, ok_or}
use Rattle.cell_core_values.specs.Name.{is_name, is_name_byte, starts_like_name}
use Rattle.cell_calc_grammar.proofs.Longest.{first_token_length-within, piece-longest}
use Rattle.cell_calc_grammar.proofs.Pieces.{pieces-blank, pieces-opened, tokens_of_text_pieces-cons}
use Rattle.cell_core_values.specs.Blanks.{is_blank}
use Rattle.cell_core_values.specs.Digits.{value_of_digits, is_digit}
use Rattle.cell_calc_grammar.specs.Tokens.{token_fault, checked_name_token, checked_number_token, fault_kind_of_invalid_number, TextPieceAtColumn, token_bytes_of_text, first_token_length, name_or_number_token, sign_token, token_of_bytes, token_with_column, tokens_of_text_pieces, next_token, token_then_tokens, token_list_of_text, sign_of_bytes}
use Rattle.cell_calc_grammar.specs.TokenSpelling.{SpellsToken, TextSpellsTokens}
use Rattle.cell_calc_grammar.specs.TokenSpelling as spelling
use Rattle.cell_calc_grammar.specs.declared.calc_fault.CalcFault.{CalcFault}
use Rattle.cell_calc_grammar.specs.declared.token.TokenAtColumn.{TokenAtColumn}
use Rattle.cell_calc_grammar.specs.declared.calc_fault.CalcKind.TheVariants.{BadName, BadNumber, BadByte, TooLong}
use Rattle.cell_calc_grammar.specs.declared.token.Sign.{Sign}
use Rattle.cell_calc_grammar.specs.declared.token.Token.{Token}
use Rattle.cell_calc_grammar.specs.declared.token.Token.TheVariants as token

-- a list that begins with a token comes from a valid token and a valid list
before-ok : (r : Result TokenAtColumn CalcFault) (s : Result (List TokenAtColumn) CalcFault) (ts : List TokenAtColumn)
    → token_then_tokens r s ≡ Ok ts →
    (t : TokenAtColumn) × (us : List TokenAtColumn) × (r ≡ Ok t) × (s ≡ Ok us) × (ts ≡ t ∷ us)
before-ok (Ok t) (Ok us) ts h = (t, us, refl, refl, cc)
before-ok (Ok t) (Err f) ts h = cc
before-ok (Err f) s ts h = cc

-- a token comes from the branch that the condition chose
chosen : {T : Type 0} (b : Bool) (r s : Result T CalcFault) (t : T) → (if b then r else s) ≡ Ok t →
    ((b ≡ true) × (r ≡ Ok t)) ⊎ ((b ≡ false) × (s ≡ Ok t))
chosen true r s t h = inl (refl, h)
chosen false r s t h = inr (refl, h)

name-spells : (c : ℕ) (bytes : List ℕ) (t : Token) → starts_like_name bytes ≡ true
    → list_all is_name_byte bytes ≡ true →
    checked_name_token c bytes ≡ Ok t → SpellsToken bytes t
name-spells c bytes t starts all is =
    elim (chosen (nat_le (length bytes) 64) (Ok (token.Name bytes)) (Err (token_fault BadName c)) t is) [
      | inl h ↦ let e : token.Name bytes ≡ t = cc in
          let named : is_name bytes ≡ true = rw (starts, all, h.0) refl in
          subst (SpellsToken bytes) e (refl, named)
      | inr h ↦ cc
    ]

number-spells : (c : ℕ) (bytes : List ℕ) (t : Token) → 0 < length bytes → list_all is_digit bytes ≡ true →
    checked_number_token c bytes ≡ Ok t → SpellsToken bytes t
number-spells c bytes t some digits is =
    elim (chosen (nat_le (value_of_digits bytes) 2147483647) (Ok (token.Number (value_of_digits bytes))) (Err (token_fault BadNumber c)) t is) [
      | inl h ↦ let e : token.Number (value_of_digits bytes) ≡ t = cc in
          let low : value_of_digits bytes ≤ 2147483647 = grind (arith, nat_tests) in
          subst (SpellsToken bytes) e (some, digits, refl, low)
      | inr h ↦ cc
    ]

word-spells : (c : ℕ) (bytes : List ℕ) (t : Token) → 0 < length bytes → list_all is_name_byte bytes ≡ true →
    name_or_number_token c bytes ≡ Ok t → SpellsToken bytes t
unfolding name_or_number_token
word-spells c bytes t some all is =
    elim (chosen (starts_like_name bytes) (checked_name_token c bytes) (if list_all is_digit bytes then checked_number_token c bytes else Err (token_fault (fault_kind_of_invalid_number bytes) c)) t is) [
      | inl h ↦ name-spells c bytes t h.0 all h.1
      | inr h ↦ elim (chosen (list_all is_digit bytes) (checked_number_token c bytes) (Err (token_fault (fault_kind_of_invalid_number bytes) c)) t h.1) [
        | inl g ↦ number-spells c bytes t some g.0 g.1
        | inr g ↦ cc
      ]
    ]

sign-spells : (c : ℕ) (bytes : List ℕ) (o : Option Sign) (t : Token) → sign_of_bytes bytes ≡ o →
    ok_or (option_map token.Sign o) (token_fault BadByte c) ≡ Ok t → SpellsToken bytes t
sign-spells c bytes None t is h = cc
sign-spells c bytes (Some s) t is h =
    let e : token.Sign s ≡ t = cc in subst (SpellsToken bytes) e is

token-spells : (c : ℕ) (bytes : List ℕ) (t : Token) → 0 < length bytes → token_of_bytes c bytes ≡ Ok t
    → SpellsToken bytes t
token-spells c bytes t some is =
    elim (chosen (list_all is_name_byte bytes) (name_or_number_token c bytes) (sign_token c bytes) t is) [
      | inl h ↦ word-spells c bytes t some h.0 h.1
      | inr h ↦ sign-spells c bytes (sign_of_bytes bytes) t refl h.1
    ]

-- a token has the column of its piece
placed-ok : (c : ℕ) (r : Result Token CalcFault) (t : TokenAtColumn) → token_with_column c r ≡ Ok t → (r ≡ Ok t.token)
    × (t.column ≡ c)
placed-ok c (Ok u) t h =
    let e : record { token = u; column = c } ≡ t = cc in
    (ap (λ (p : TokenAtColumn). Ok p.token) e, sym (ap (λ (p : TokenAtColumn). p.column) e))
placed-ok c (Err f) t h = cc

-- a token is read only below the limit, from the bytes of its piece
next-ok : (count : ℕ) (p : TextPieceAtColumn) (t : TokenAtColumn) → next_token count p ≡ Ok t →
    (count < 1000) × (token_of_bytes p.column p.bytes ≡ Ok t.token) × (t.column ≡ p.column)
next-ok count p t is =
    elim (chosen (nat_lt count 1000) (token_with_column p.column (token_of_bytes p.column p.bytes)) (Err (token_fault TooLong p.column)) t is) [
      | inl h ↦ let at = placed-ok p.column (token_of_bytes p.column p.bytes) t h.1 in
          let low : count < 1000 = grind (arith, nat_tests) in
          (low, at.0, at.1)
      | inr h ↦ cc
    ]

-- a token, followed by spelled tokens, is spelled
spelled-token : (c n : ℕ) (bs : List ℕ) (t : TokenAtColumn) (us : List TokenAtColumn) →
    n ≤ length bs →
    first_token_length bs ≡ n →
    SpellsToken (take n bs) t.token →
    t.column ≡ c →
    TextSpellsTokens (c + n) (drop n bs) us →
    TextSpellsTokens c bs (t ∷ us)
spelled-token c n bs t us within cut is at others =
    let size : length (take n bs) ≡ n = length-take-le n bs within in
    let same : first_token_length (take n bs ++ drop n bs) ≡ length (take n bs) = rw
    (take-append-drop n bs, size) cut in
    let long = piece-longest (take n bs) (drop n bs) same in
    let rest : TextSpellsTokens (c + length (take n bs)) (drop n bs) us = rw size others in
    let whole : TextSpellsTokens c (take n bs ++ drop n bs) (record { token = t.token; column = c } ∷ us) =
    spelling.token t.token (take n bs) is long rest in
    let text : TextSpellsTokens c bs (record { token = t.token; column = c } ∷ us) =
    subst (λ xs. TextSpellsTokens c xs (record { token = t.token; column = c } ∷ us)) (take-append-drop n bs) whole in
    subst (λ k. TextSpellsTokens c bs (record { token = t.token; column = k } ∷ us)) (sym at) text

-- the tokens of a text are spelled from each position on
abbrev IsSpelledOn : List ℕ → Type 0
IsSpelledOn bs = (k c count : ℕ) (ts : List TokenAtColumn) → tokens_of_text_pieces count (token_bytes_of_text k c bs) ≡ Ok ts → TextSpellsTokens (c + k) (drop k bs) ts

spelled-piece : (b : ℕ) (bs : List ℕ) (n c count : ℕ) (ts : List TokenAtColumn) → IsSpelledOn bs → is_blank b ≡ false → first_token_length (b ∷ bs) ≡ n →
    0 < n → n ≤ length (b ∷ bs) → tokens_of_text_pieces count (token_bytes_of_text zero c (b ∷ bs)) ≡ Ok ts
    → TextSpellsTokens c (b ∷ bs) ts
spelled-piece b bs zero c count ts on word length some within h = absurd (omega arith)
spelled-piece b bs (suc n) c count ts on word length some within h =
    let p : TextPieceAtColumn = record { column = c; bytes = take (suc n) (b ∷ bs) } in
    let opened : token_then_tokens (next_token count p) (tokens_of_text_pieces (count + 1)
    (token_bytes_of_text n (c + 1) bs))
    ≡ Ok ts =
    sym (ap (tokens_of_text_pieces count) (pieces-opened c b bs n word length) ∙ tokens_of_text_pieces-cons count p (token_bytes_of_text n (c + 1) bs)) ∙ h in
    let parts = before-ok (next_token count p) (tokens_of_text_pieces (count + 1)
    (token_bytes_of_text n (c + 1) bs)) ts opened in
    let next = next-ok count p parts.0 parts.2 in
    let spells = token-spells c p.bytes parts.0.token (omega (arith, length-take-le (suc n) (b ∷ bs) within)) next.1 in
    let rest : TextSpellsTokens (c + 1 + n) (drop n bs) parts.1 = on n (c + 1) (count + 1) parts.1 parts.3 in
    let after : TextSpellsTokens (c + suc n) (drop n bs) parts.1 = subst (λ m. TextSpellsTokens m (drop n bs) parts.1) (omega arith) rest in
    subst (TextSpellsTokens c (b ∷ bs)) (sym parts.4) (spelled-token c (suc n) (b ∷ bs) parts.0 parts.1 within length spells next.2 after)

spelled-next : (b : ℕ) (bs : List ℕ) (v : Bool) (c count : ℕ) (ts : List TokenAtColumn) → IsSpelledOn bs
    → is_blank b ≡ v →
    tokens_of_text_pieces count (token_bytes_of_text zero c (b ∷ bs)) ≡ Ok ts → TextSpellsTokens c (b ∷ bs) ts
spelled-next b bs true c count ts on is h =
    let after : TextSpellsTokens (c + 1 + 0) (drop 0 bs) ts = on 0 (c + 1) count ts (sym (ap (tokens_of_text_pieces count) (pieces-blank c b bs is)) ∙ h) in
    spelling.blank is (subst (λ m. TextSpellsTokens m bs ts) (omega arith) after)
spelled-next b bs false c count ts on is h =
    let within = first_token_length-within (b ∷ bs) (omega arith) in
    spelled-piece b bs (first_token_length (b ∷ bs)) c count ts on is refl within.0 within.1 h

spelled-on : (bs : List ℕ) → IsSpelledOn bs
unfolding token_bytes_of_text tokens_of_text_pieces
spelled-on [] zero c count ts h = let none : [] ≡ ts = cc in subst (TextSpellsTokens (c + 0) []) none spelling.ends
spelled-on [] (suc k) c count ts h = let none : [] ≡ ts = cc in subst
    (TextSpellsTokens (c + suc k) []) none spelling.ends
spelled-on (b ∷ bs) (suc k) c count ts h =
    subst (λ m. TextSpellsTokens m (drop k bs) ts) (omega arith) (spelled-on bs k (c + 1) count ts h)
spelled-on (b ∷ bs) zero c count ts h =
    subst (λ m. TextSpellsTokens m (b ∷ bs) ts) (omega arith) (spelled-next b bs (is_blank b) c count ts (spelled-on bs) refl h)

pub are_spelled : (text : List ℕ) (ts : List TokenAtColumn) → token_list_of_text text ≡ Ok ts
    → TextSpellsTokens 1 text ts
unfolding token_list_of_text
are_spelled text ts h = subst (λ m. TextSpellsTokens m text ts) (omega arith) (spelled-on text 0 1 0 ts h)

few-from : (ps : List TextPieceAtColumn) (count : ℕ) (ts : List TokenAtColumn) → count ≤ 1000 → tokens_of_text_pieces count ps ≡ Ok ts → count + length ts ≤ 1000
unfolding tokens_of_text_pieces
few-from [] count ts low h = let none : [] ≡ ts = cc in subst (λ us. count + length us ≤ 1000) none (omega arith)
few-from (p ∷ ps) count ts low h =
    let parts = before-ok (next_token count p) (tokens_of_text_pieces (count + 1) ps) ts h in
    let next = next-ok count p parts.0 parts.2 in
    let after = few-from ps (count + 1) parts.1 (omega (arith, next.0)) parts.3 in
    subst (λ us. count + length us ≤ 1000) (sym parts.4) (omega arith)

-- a text has at most 1000 tokens
pub are_few : (text : List ℕ) (ts : List TokenAtColumn) → token_list_of_text text ≡ Ok ts → length ts ≤ 1000
unfolding token_list_of_text
are_few text ts h = omega (arith, few-from (token_bytes_of_text 0 1 text) 0 ts (omega arith) h)
