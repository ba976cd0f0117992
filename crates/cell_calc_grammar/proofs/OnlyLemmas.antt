-- A text spells only the tokens of its list.
use Rattle.std.proofs.Common.{◌≡◌, ℕ, zero, ◌+◌, ◌<◌, ◌≤◌, Bool, true, false, ◌&&◌, nat_le, List, [], ◌∷◌, ◌++◌, length, refl, ap, sym, ◌∙◌, arith, subst, Some, Ok}
use Rattle.std.proofs.lemmas.Bool.Decides.{nat_tests}
use Rattle.std.proofs.Math.Seq.{take-append_seam, drop-append_seam}
use Rattle.std.specs.List.{list_all}
use Rattle.std.specs.Prelude.{nat_lt, not}
use Rattle.cell_core_values.specs.Name.{is_name, is_name_byte, is_name_start, starts_like_name}
use Rattle.cell_calc_grammar.proofs.Longest.{both_true, not_true, sign-passes, word-longest, sign-longest}
use Rattle.cell_calc_grammar.proofs.Pieces.{pieces-blank, pieces-first, tokens_of_text_pieces-cons}
use Rattle.cell_core_values.specs.Blanks.{is_blank}
use Rattle.cell_core_values.specs.Digits.{is_digit, value_of_digits}
use Rattle.cell_calc_grammar.specs.Tokens.{sign_of_bytes, TextPieceAtColumn, token_bytes_of_text, first_token_length, name_or_number_token, token_of_bytes, tokens_of_text_pieces, next_token, token_list_of_text}
use Rattle.cell_calc_grammar.specs.TokenSpelling.{SpellsToken, IsLongestToken, TextSpellsTokens}
use Rattle.cell_calc_grammar.specs.TokenSpelling as spelling
use Rattle.cell_calc_grammar.specs.declared.token.TokenAtColumn.{TokenAtColumn}
use Rattle.cell_calc_grammar.specs.declared.token.Sign.{Sign}
use Rattle.cell_calc_grammar.specs.declared.token.Token.{Token}
use Rattle.cell_calc_grammar.specs.declared.token.Token.TheVariants as token

-- the bytes do not begin with a blank
abbrev begins_piece : List ℕ → Bool
begins_piece [] = false
begins_piece (b ∷ bs) = not (is_blank b)

digit-is_name_byte : (b : ℕ) → is_digit b ≡ true → is_name_byte b ≡ true
digit-is_name_byte b h = grind (arith, nat_tests)

digit-is_name_start : (b : ℕ) → is_digit b ≡ true → is_name_start b ≡ false
digit-is_name_start b h = grind (arith, nat_tests)

digit-is_blank : (b : ℕ) → is_digit b ≡ true → is_blank b ≡ false
digit-is_blank b h = grind (arith, nat_tests)

start-is_blank : (b : ℕ) → is_name_start b ≡ true → is_blank b ≡ false
start-is_blank b h = grind (arith, nat_tests)

-- the bytes begin like a sign and are not a word
abbrev is_mark : List ℕ → Bool
is_mark bytes = begins_piece bytes && not (list_all is_name_byte bytes)

sign-is_mark : (bytes : List ℕ) (s : Sign) → sign_of_bytes bytes ≡ Some s → is_mark bytes ≡ true
sign-is_mark bytes s is = sign-passes is_mark bytes s refl is

digits-are_name_bytes : (bytes : List ℕ) → list_all is_digit bytes ≡ true → list_all is_name_byte bytes ≡ true
digits-are_name_bytes [] h = refl
digits-are_name_bytes (b ∷ bs) h =
    let each = both_true (is_digit b) (list_all is_digit bs) h in
    rw (digit-is_name_byte b each.0, digits-are_name_bytes bs each.1) refl

sign-is_name_bytes : (bytes : List ℕ) (s : Sign) → sign_of_bytes bytes ≡ Some s → list_all is_name_byte bytes ≡ false
sign-is_name_bytes bytes s h =
    not_true (list_all is_name_byte bytes) (both_true (begins_piece bytes) (not (list_all is_name_byte bytes)) (sign-is_mark bytes s h)).1

sign-begins : (bytes : List ℕ) (s : Sign) → sign_of_bytes bytes ≡ Some s → begins_piece bytes ≡ true
sign-begins bytes s h = (both_true (begins_piece bytes) (not (list_all is_name_byte bytes)) (sign-is_mark bytes s h)).0

-- the bytes of a token do not begin with a blank
spells-begins : (bytes : List ℕ) (t : Token) → SpellsToken bytes t → begins_piece bytes ≡ true
spells-begins [] (token.Number n) is = absurd (omega (arith, is.0))
spells-begins (b ∷ bs) (token.Number n) is =
    rw (digit-is_blank b (both_true (is_digit b) (list_all is_digit bs) is.1).0) refl
spells-begins [] (token.Name name) is = let named : is_name [] ≡ true = subst (λ m. is_name m ≡ true) (sym is.0) is.1 in cc
spells-begins (b ∷ bs) (token.Name name) is =
    let named : is_name (b ∷ bs) ≡ true = subst (λ m. is_name m ≡ true) (sym is.0) is.1 in
    rw (start-is_blank b (both_true (is_name_start b) (list_all is_name_byte (b ∷ bs) && nat_le (length (b ∷ bs)) 64) named).0) refl
spells-begins [] (token.Sign s) is = sign-begins [] s is
spells-begins (b ∷ bs) (token.Sign s) is = sign-begins (b ∷ bs) s is

digits-start : (bytes : List ℕ) → 0 < length bytes → list_all is_digit bytes ≡ true → starts_like_name bytes ≡ false
digits-start [] some h = absurd (omega arith)
digits-start (b ∷ bs) some h = digit-is_name_start b (both_true (is_digit b) (list_all is_digit bs) h).0

-- the bytes of a token are read as that token
spells-token : (c : ℕ) (bytes : List ℕ) (t : Token) → SpellsToken bytes t → token_of_bytes c bytes ≡ Ok t
unfolding name_or_number_token
spells-token c bytes (token.Number n) is =
    let low : nat_le (value_of_digits bytes) 2147483647 ≡ true = grind (arith, nat_tests) in
    rw (digits-are_name_bytes bytes is.1, digits-start bytes is.0 is.1, is.1, low) (ap (λ m. Ok (token.Number m)) is.2)
spells-token c bytes (token.Name name) is =
    let named : is_name bytes ≡ true = rw is.0 is.1 in
    let start = both_true (starts_like_name bytes) (list_all is_name_byte bytes && nat_le (length bytes) 64) named in
    let rest = both_true (list_all is_name_byte bytes) (nat_le (length bytes) 64) start.1 in
    rw (rest.0, start.0, rest.1) (ap (λ m. Ok (token.Name m)) is.0)
spells-token c bytes (token.Sign s) is =
    rw (sign-is_name_bytes bytes s is, is) refl

begun : (bytes text : List ℕ) → begins_piece bytes ≡ true →
    (b : ℕ) × (others : List ℕ) × (bytes ++ text ≡ b ∷ others) × (is_blank b ≡ false) × (0 < length bytes)
begun [] text h = cc
begun (b ∷ bs) text h = (b, bs ++ text, refl, not_true (is_blank b) h, omega arith)

-- if no longer token begins a text, the bytes of its first token are its first piece
spells-longest : (bytes text : List ℕ) (t : Token) → SpellsToken bytes t → IsLongestToken bytes text → first_token_length (bytes ++ text) ≡ length bytes
spells-longest bytes text (token.Number n) is longest = word-longest bytes text is.0 (digits-are_name_bytes bytes is.1) longest
spells-longest bytes text (token.Name name) is longest =
    let named : is_name bytes ≡ true = rw is.0 is.1 in
    let start = both_true (starts_like_name bytes) (list_all is_name_byte bytes && nat_le (length bytes) 64) named in
    let rest = both_true (list_all is_name_byte bytes) (nat_le (length bytes) 64) start.1 in
    word-longest bytes text (begun bytes text (spells-begins bytes (token.Name name) is)).4 rest.0 longest
spells-longest bytes text (token.Sign s) is longest = sign-longest bytes text s is longest

next_token-at : (count c : ℕ) (bytes : List ℕ) (t : Token) → count < 1000 → token_of_bytes c bytes ≡ Ok t →
    next_token count (record { column = c; bytes = bytes }) ≡ Ok (record { token = t; column = c })
next_token-at count c bytes t low is =
    let below : nat_lt count 1000 ≡ true = grind (arith, nat_tests) in
    rw (below, is) refl

-- tokens that are spelled from a column on are the tokens of the text's pieces from that column on
spelled-only : {c : ℕ} {text : List ℕ} {ts : List TokenAtColumn} → TextSpellsTokens c text ts → (count : ℕ) → count + length ts ≤ 1000 →
    tokens_of_text_pieces count (token_bytes_of_text zero c text) ≡ Ok ts
unfolding token_bytes_of_text tokens_of_text_pieces
spelled-only spelling.ends count few = refl
spelled-only (spelling.blank {column = c} {b = b} {text = text} is rest) count few =
    ap (tokens_of_text_pieces count) (pieces-blank c b text is) ∙ spelled-only rest count few
spelled-only (spelling.token {column = c} {text = text} {tokens = ts} t bytes is long rest) count few =
    let at = begun bytes text (spells-begins bytes t is) in
    let p : TextPieceAtColumn = record { column = c; bytes = bytes } in
    let cut = pieces-first c at.0 (bytes ++ text) at.1 (length bytes) at.2 at.3 (spells-longest bytes text t is long) at.4 in
    let first : token_bytes_of_text zero c (bytes ++ text) ≡ p ∷ token_bytes_of_text zero (c + length bytes) text =
    simp (take-append_seam, drop-append_seam) at cut in
    let next = next_token-at count c bytes t (omega arith) (spells-token c bytes t is) in
    let others = spelled-only rest (count + 1) (omega arith) in
    ap (tokens_of_text_pieces count) first ∙ (tokens_of_text_pieces-cons count p
    (token_bytes_of_text zero (c + length bytes) text)
    ∙ rw (next, others) refl)

-- the tokens that a text spells are the tokens of its list
pub is_list : (text : List ℕ) (ts : List TokenAtColumn) → TextSpellsTokens 1 text ts → length ts ≤ 1000
    → token_list_of_text text ≡ Ok ts
unfolding token_list_of_text
is_list text ts is few = spelled-only is 0 (omega arith)
