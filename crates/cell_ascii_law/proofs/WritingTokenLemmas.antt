-- The tokens of a written text: numbers, the null text and the keys.
use Rattle.std.proofs.Common.{◌≡◌, ℕ, suc, ◌+◌, ◌^◌, ◌/◌, ◌%◌, ◌<◌, ◌≤◌, ℤ, pos, negsuc, List, [], ◌∷◌, length, Bool, true, false, ◌==◌, ◌&&◌, ◌||◌, decimal, refl, ◌∙◌, arith, if◌then◌else◌, length-append}
use Rattle.std.specs.Fmt.{signed_decimal}
use Rattle.std.specs.List.{list_all}
use Rattle.std.proofs.lemmas.Bool.{and_parts}
use Rattle.std.proofs.lemmas.Bool.Decides.{nat_tests}
use Rattle.std.proofs.lemmas.Fmt.{length-decimal-le}
use Rattle.std.proofs.lemmas.List.Folds.{list_all-append}
use Rattle.cell_ascii_meaning.specs.GridTokens.{is_word_byte}
use Rattle.cell_ascii_meaning.specs.EdgeNumbers.{is_digit}
use Rattle.cell_ascii_meaning.specs.Header.{has_colon, is_colon}
use Rattle.cell_ascii_meaning.specs.Writing.{digits_without_trailing_zeros, fraction_text, unsigned_coordinate_text}
use Rattle.cell_ascii_meaning.specs.Writing.{coordinate_text, IsValidNullText}
use Rattle.cell_ascii_law.proofs.WritingDigitLemmas.{numeral, eight, fraction}
use Rattle.cell_ascii_law.proofs.WritingNumberLemmas.{size}
use Rattle.cell_ascii_law.proofs.WritingLexLemmas.{IsToken}

-- a digit, a minus or a point
abbrev is_mark : ℕ → Bool
is_mark b = is_digit b || (b == 45 || b == 46)

-- a token without a colon: a cell, or the value of a key
pub record IsValue (w : List ℕ) : Type 0 where
  pub token : IsToken w
  pub colon : has_colon w ≡ false

mark_is : (b : ℕ) → is_mark b ≡ true → (is_word_byte b ≡ true) × (is_colon b ≡ false)
mark_is b e = (grind (arith, nat_tests), grind (arith, nat_tests))

digit_mark : (b : ℕ) → is_digit b ≡ true → is_mark b ≡ true
digit_mark b e = rw e refl

marks_are : (w : List ℕ) → list_all is_mark w ≡ true → (list_all is_word_byte w ≡ true) × (has_colon w ≡ false)
marks_are [] e = (refl, refl)
marks_are (b ∷ w) e =
    let parts = and_parts (is_mark b) (list_all is_mark w) e in
    let one = mark_is b parts.0 in
    let rest = marks_are w parts.1 in
    ((λ i. one.0 i && rest.0 i), (λ i. one.1 i || rest.1 i))

digits_mark : (w : List ℕ) → list_all is_digit w ≡ true → list_all is_mark w ≡ true
digits_mark [] e = refl
digits_mark (b ∷ w) e =
    let parts = and_parts (is_digit b) (list_all is_digit w) e in
    (λ i. digit_mark b parts.0 i && digits_mark w parts.1 i)

marks_value : (w : List ℕ) → 0 < length w → length w ≤ 64 → list_all is_mark w ≡ true → IsValue w
marks_value w some most e = let are = marks_are w e in record { token = record { some = some; most = most; word = are.0 }; colon = are.1 }

pub decimal_value : (n : ℕ) → n < 2 ^ 64 → IsValue (decimal n)
decimal_value n low =
    let is = numeral n low in
    marks_value (decimal n) is.some (omega (arith, length-decimal-le 20 n (omega arith) (omega arith) low)) (digits_mark (decimal n) is.digits)

pub signed_value : (z : ℤ) → size z < 2 ^ 64 → IsValue (signed_decimal z)
signed_value (pos n) low = decimal_value n low
signed_value (negsuc n) low =
    let is = numeral (suc n) low in
    marks_value (45 ∷ decimal (suc n)) (omega arith) (omega (arith, length-decimal-le 20 (suc n) (omega arith) (omega arith) low)) (digits_mark (decimal (suc n)) is.digits)

pub null_value : (null_text : List ℕ) → IsValidNullText null_text → IsValue null_text
null_value null_text is = record { token = record { some = is.some; most = is.most; word = is.word }; colon = is.colon }

fraction_marks : (part : ℕ) → part < 100000000 → (list_all is_mark (fraction_text part) ≡ true) × (length (fraction_text part) ≤ 9)
fraction_marks part low = by (part == 0)
  where
    by : (t : Bool) → (list_all is_mark (if t then [] else 46 ∷ digits_without_trailing_zeros (eight part)) ≡ true) × (length (if t then [] else 46 ∷ digits_without_trailing_zeros (eight part)) ≤ 9)
    by true = (refl, omega arith)
    by false = let is = fraction part low in (digits_mark (digits_without_trailing_zeros (eight part)) is.digits, (let short = is.short in omega arith))

units_marks : (n : ℕ) → n ≤ 999999999999999999 → (list_all is_mark (unsigned_coordinate_text n) ≡ true) × (length (unsigned_coordinate_text n) ≤ 19) × (0 < length (unsigned_coordinate_text n))
units_marks n low =
    let w = n / 100000000 in
    let tail = fraction_text (n % 100000000) in
    let is = numeral w (omega arith) in
    let some = is.some in
    let behind = fraction_marks (n % 100000000) (omega arith) in
    let all : list_all is_mark (unsigned_coordinate_text n) ≡ true = list_all-append is_mark (decimal w) tail ∙ (λ i. digits_mark (decimal w) is.digits i && behind.0 i) in
    let count : length (unsigned_coordinate_text n) ≡ length (decimal w) + length tail = length-append
    (decimal w) tail in
    let few = length-decimal-le 10 w (omega arith) (omega arith) (omega arith) in
    let short = behind.1 in
    (all, omega arith, omega arith)

pub coordinate_value : (z : ℤ) → size z ≤ 999999999999999999 → IsValue (coordinate_text z)
coordinate_value (pos n) low = let is = units_marks n low in marks_value (unsigned_coordinate_text n) is.2
    (omega arith) is.0
coordinate_value (negsuc n) low = let is = units_marks (suc n) low in marks_value (45 ∷ unsigned_coordinate_text (suc n)) (omega arith) (omega arith) is.0
