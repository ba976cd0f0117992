-- A null text that a script accepts is a null text of grids.
use Rattle.std.proofs.Common.{◌≡◌, ℕ, Bool, true, false, List, [], ◌∷◌, arith, refl, rules}
use Rattle.std.specs.Prelude.{◌&&◌}
use Rattle.std.specs.List.{list_all}
use Rattle.std.proofs.lemmas.Bool.Decides.{nat_tests}
use Rattle.cell_ascii_meaning.specs.GridTokens.{is_word_byte}
use Rattle.cell_ascii_meaning.specs.Header.{is_colon, has_colon}
use Rattle.cell_ascii_meaning.specs.Writing.{IsValidNullText}
use Rattle.rcell_script.specs.NullText.{is_grid_null_text_byte, is_grid_null_text}

-- a character of a null text does not end a word
is_word-null : (b : ℕ) → is_grid_null_text_byte b ≡ true → is_word_byte b ≡ true
is_word-null b e = grind (arith, nat_tests)

no_colon-null : (b : ℕ) → is_grid_null_text_byte b ≡ true → is_colon b ≡ false
no_colon-null b e = grind (arith, nat_tests)

pub and_true : (a b : Bool) → (a && b) ≡ true → (a ≡ true) × (b ≡ true)
and_true true b e = (refl, e)
and_true false b e = cc

words-null : (bs : List ℕ) → list_all is_grid_null_text_byte bs ≡ true → list_all is_word_byte bs ≡ true
words-null [] e = refl
words-null (b ∷ bs) e =
    let both = and_true (is_grid_null_text_byte b) (list_all is_grid_null_text_byte bs) e in
    rw (is_word-null b both.0, words-null bs both.1) refl

no_colons-null : (bs : List ℕ) → list_all is_grid_null_text_byte bs ≡ true → has_colon bs ≡ false
no_colons-null [] e = refl
no_colons-null (b ∷ bs) e =
    let both = and_true (is_grid_null_text_byte b) (list_all is_grid_null_text_byte bs) e in
    rw (no_colon-null b both.0, no_colons-null bs both.1) refl

-- a null text has 1 to 64 characters, none of them a blank or a colon
pub IsValidNullText-given : (bs : List ℕ) → is_grid_null_text bs ≡ true → IsValidNullText bs
IsValidNullText-given bs e = search (rules, and_true, nat_tests, words-null, no_colons-null)
