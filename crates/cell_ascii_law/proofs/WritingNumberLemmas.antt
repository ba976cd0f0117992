-- The numbers of a grid text are read back as they were written.
use Rattle.std.proofs.Common.{◌≡◌, ℕ, suc, ◌+◌, ◌-◌, ◌*◌, ◌^◌, ◌/◌, ◌%◌, ◌<◌, ◌≤◌, ℤ, pos, negsuc, List, [], ◌∷◌, ◌++◌, length, drop, take, Option, Some, Bool, true, false, ◌==◌, not, decimal, refl, ap, sym, ◌∙◌, arith, cond, if◌then◌else◌, append-nil}
use Rattle.std.proofs.Math.Seq.{take-append_seam, drop-append-add}
use Rattle.std.specs.Prelude.{nat_le}
use Rattle.std.specs.Fmt.{signed_decimal}
use Rattle.std.specs.List.{list_all, prefix_len, before_first, after_first}
use Rattle.std.proofs.lemmas.Bool.{and_parts, leb-true, eqb-true}
use Rattle.std.proofs.lemmas.Bool.Decides.{nat_tests}
use Rattle.std.proofs.lemmas.Fmt.{length-decimal-le}
use Rattle.cell_ascii_meaning.specs.EdgeNumbers.{is_decimal_point, is_digit, value_of_digits, value_if_digits, number_with_optional_sign, whole_number_of_text, is_in_category_range, decimal_in_coordinate_units, unsigned_coordinate_of_text, coordinate_of_text, row_or_column_count_of_text}
use Rattle.cell_ascii_meaning.specs.Writing.{digits_without_trailing_zeros, fraction_text, unsigned_coordinate_text}
use Rattle.cell_ascii_meaning.specs.Writing.{coordinate_text}
use Rattle.cell_ascii_law.proofs.WritingDigitLemmas.{IsNumeralOf, numeral, eight, IsFraction, fraction}

-- A leading sign, or none.
digit_is : (d c : ℕ) → is_digit d ≡ true → c < 48 → (d == c) ≡ false
digit_is d c digit low = grind (arith, nat_tests)

pos_back : (unsigned : List ℕ → Option ℕ) (ds tail : List ℕ) (n : ℕ) → list_all is_digit ds ≡ true → 0 < length ds → unsigned (ds ++ tail) ≡ Some n → number_with_optional_sign unsigned (ds ++ tail) ≡ Some (pos n)
pos_back unsigned [] tail n digits some e = absurd (omega arith)
pos_back unsigned (d ∷ ds) tail n digits some e =
    let digit = (and_parts (is_digit d) (list_all is_digit ds) digits).0 in
    let minus = digit_is d 45 digit (omega arith) in
    let plus = digit_is d 43 digit (omega arith) in
    rw (minus, plus, e) refl

neg_back : (unsigned : List ℕ → Option ℕ) (ds : List ℕ) (n : ℕ) → unsigned ds ≡ Some (suc n) → number_with_optional_sign unsigned (45 ∷ ds) ≡ Some (negsuc n)
neg_back unsigned ds n e = rw e refl

-- Whole numbers.
digits_back : (n : ℕ) (ds : List ℕ) → IsNumeralOf n ds → value_if_digits ds ≡ Some n
digits_back n [] is = absurd (let h = is.some in omega arith)
digits_back n (d ∷ ds) is = rw is.digits (ap Some is.value)

-- the distance of a number from 0
abbrev pub size : ℤ → ℕ
size (pos n) = n
size (negsuc n) = suc n

pub whole_back : (z : ℤ) → size z < 2 ^ 64 → whole_number_of_text (signed_decimal z) ≡ Some z
whole_back (pos n) low =
    let is = numeral n low in
    let whole : value_if_digits (decimal n ++ []) ≡ Some n = ap value_if_digits (append-nil (decimal n)) ∙ digits_back n (decimal n) is in
    ap whole_number_of_text (sym (append-nil (decimal n))) ∙ pos_back value_if_digits
    (decimal n) [] n is.digits is.some whole
whole_back (negsuc n) low = neg_back value_if_digits (decimal (suc n)) n (digits_back (suc n) (decimal (suc n)) (numeral (suc n) low))

pub in_range_low : (z : ℤ) → is_in_category_range z ≡ true → size z < 2 ^ 64
in_range_low (pos n) e = let h = leb-true n 2147483647 e in omega arith
in_range_low (negsuc n) e = let h = leb-true n 2147483646 (and_parts (nat_le n 2147483646) true e).0 in omega arith

side_of : (bs : List ℕ) (n : ℕ) → whole_number_of_text bs ≡ Some (pos n) → is_in_category_range (pos n) ≡ true
    → row_or_column_count_of_text bs ≡ Some n
side_of bs n e range = rw (e, range) refl

pub side_back : (n : ℕ) → n ≤ 65535 → row_or_column_count_of_text (decimal n) ≡ Some n
side_back n low = side_of (decimal n) n (whole_back (pos n) (omega arith)) (grind (arith, nat_tests))

-- Coordinates.
place : (ds tail : List ℕ) → list_all is_digit ds ≡ true → prefix_len (λ b. not (is_decimal_point b)) tail ≡ 0 → prefix_len (λ b. not (is_decimal_point b)) (ds ++ tail) ≡ length ds
place [] tail digits first = first
place (d ∷ ds) tail digits first =
    let parts = and_parts (is_digit d) (list_all is_digit ds) digits in
    let other = digit_is d 46 parts.0 (omega arith) in
    ap (λ t. cond (not t) (1 + prefix_len (λ b. not (is_decimal_point b)) (ds ++ tail)) 0) other ∙ (let rest = place ds tail parts.1 first in omega arith)

record IsPointed (ds tail : List ℕ) : Type 0 where
  before : before_first is_decimal_point (ds ++ tail) ≡ ds
  after : after_first is_decimal_point (ds ++ tail) ≡ drop 1 tail

pointed : (ds tail : List ℕ) → list_all is_digit ds ≡ true → prefix_len (λ b. not (is_decimal_point b)) tail ≡ 0 → IsPointed ds tail
pointed ds tail digits first =
    let at = place ds tail digits first in
    record {
      before = ap (λ n. take n (ds ++ tail)) at ∙ take-append_seam ds tail;
      after = ap (λ n. drop (n + 1) (ds ++ tail)) at ∙ drop-append-add ds tail 1;
    }

units_of : (whole part : List ℕ) (w p : ℕ) → IsNumeralOf w whole → length whole ≤ 10 → IsFraction p part → decimal_in_coordinate_units whole part ≡ Some (w * 100000000 + p)
units_of whole part w p is short frac =
    let some = is.some in
    let small = frac.short in
    let a : nat_le (length whole) 10 ≡ true = grind (arith, nat_tests) in
    let b : nat_le (length part) 8 ≡ true = grind (arith, nat_tests) in
    let c : nat_le 1 (length whole + length part) ≡ true = grind (arith, nat_tests) in
    rw (is.digits, frac.digits, a, b, c) (λ i. Some (is.value i * 100000000 + frac.value i))

-- the point and the digits after it, or nothing
record IsTail (part : ℕ) (tail : List ℕ) : Type 0 where
  first : prefix_len (λ b. not (is_decimal_point b)) tail ≡ 0
  rest : IsFraction part (drop 1 tail)

tail_of : (part : ℕ) → part < 100000000 → IsTail part (fraction_text part)
tail_of part low = by (part == 0) refl
  where
    by : (t : Bool) → (part == 0) ≡ t → IsTail part (if t then [] else 46 ∷ digits_without_trailing_zeros (eight part))
    by true e = let nothing : value_of_digits [] * 10 ^ (8 - 0) ≡ 0 = refl in record { first = refl; rest = record { digits = refl; short = omega arith; value = nothing ∙ sym (eqb-true part 0 e) } }
    by false e = record { first = refl; rest = fraction part low }

units_back : (n : ℕ) → n ≤ 999999999999999999 → unsigned_coordinate_of_text (unsigned_coordinate_text n) ≡ Some n
units_back n low =
    let w = n / 100000000 in
    let p = n % 100000000 in
    let is = numeral w (omega arith) in
    let tail = tail_of p (omega arith) in
    let at = pointed (decimal w) (fraction_text p) is.digits tail.first in
    let sum : w * 100000000 + p ≡ n = omega arith in
    (λ i. decimal_in_coordinate_units (at.before i) (at.after i))
    ∙ units_of (decimal w) (drop 1 (fraction_text p)) w p is (length-decimal-le 10 w (omega arith) (omega arith) (omega arith)) tail.rest
    ∙ ap Some sum

pub coordinate_back : (z : ℤ) → size z ≤ 999999999999999999 → coordinate_of_text (coordinate_text z) ≡ Some z
coordinate_back (pos n) low = let is = numeral (n / 100000000) (omega arith) in pos_back unsigned_coordinate_of_text (decimal (n / 100000000)) (fraction_text (n % 100000000)) n is.digits is.some (units_back n low)
coordinate_back (negsuc n) low = neg_back unsigned_coordinate_of_text (unsigned_coordinate_text (suc n)) n
    (units_back (suc n) low)
