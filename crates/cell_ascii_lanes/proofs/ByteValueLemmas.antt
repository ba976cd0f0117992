-- Values of words of one to three digits.
use Rattle.std.proofs.Common.{◌≡◌, ℕ, zero, suc, ◌+◌, ◌-◌, ◌*◌, ◌%◌, ◌^◌, ◌<◌, ◌≤◌, ltb, leb, Bool, true, false, min, List, [], ◌∷◌, length, take, drop, get_or, refl, sym, ap, ap₂, ◌∙◌, arith, w8, Fits}
use Rattle.std.specs.Prelude.{◌&&◌}
use Rattle.std.specs.List.{list_all}
use Rattle.std.proofs.lemmas.List.{drop_more}
use Rattle.std.proofs.lemmas.Nat.{and_mask, and_comm}
use Rattle.std.proofs.lemmas.Bool.Decides.{nat_tests}
use Rattle.cell_core_values.specs.Digits.{is_digit, value_of_digits}
use Rattle.cell_ascii_lanes.specs.WordLanes.{AreWordValuesAtLastDigits}
use Rattle.cell_ascii_lanes.specs.parts.LaneTables.{table_place_of_byte, table_place_of_byte_at_position, ones_digit_value, tens_digit_value, hundreds_digit_value, lane_mask_of_digit, capped_sum, two_digit_value_at_position, place_of_lane_before}
use lib.Bits.{bit_and}
use lib.Lanes.{Each1}

pub both : (a b : Bool) → (a && b) ≡ true → (a ≡ true) × (b ≡ true)
both true b e = (refl, e)
both false b e = cc

-- a lane is below 256
pub all_fit : (xs : List ℕ) → Each1 (Fits w8) xs → (k : ℕ) → get_or xs k 0 < 256
all_fit [] f k = omega arith
all_fit (x ∷ xs) f zero = f.0.fits
all_fit (x ∷ xs) f (suc k) = all_fit xs f.1 k

-- ---- the amount that one byte adds

record IsAdding (b : ℕ) : Type 0 where
  least : 48 ≤ b
  most : b ≤ 57
  one : ones_digit_value (table_place_of_byte b) ≡ b - 48
  ten : tens_digit_value (table_place_of_byte b) ≡ 10 * (b - 48)
  hundred : hundreds_digit_value (table_place_of_byte b) ≡ min (100 * (b - 48)) 255
  mask : lane_mask_of_digit (table_place_of_byte b) ≡ 255

least_digit : (x : ℕ) → is_digit x ≡ true → 48 ≤ x
least_digit x e = grind (arith, nat_tests)

most_digit : (x : ℕ) → is_digit x ≡ true → x ≤ 57
most_digit x e = grind (arith, nat_tests)

lower : (j : ℕ) → j < 10 → ltb j 10 ≡ true
lower j lt = grind (arith, nat_tests)

higher : (j : ℕ) → 10 ≤ j → ltb j 10 ≡ false
higher j le = grind (arith, nat_tests)

adding : (b : ℕ) → is_digit b ≡ true → IsAdding b
adding b e =
    let a = least_digit b e in
    let z = most_digit b e in
    let place : table_place_of_byte b ≡ b - 48 = omega arith in
    let low : ltb (b - 48) 10 ≡ true = lower (b - 48) (omega arith) in
    record { least = a; most = z; one = rw (place, low) refl; ten = rw (place, low) refl; hundred = rw (place, low) refl; mask = rw (place, low) refl }

record AddsNothing (b : ℕ) : Type 0 where
  ten : tens_digit_value (table_place_of_byte b) ≡ 0
  hundred : hundreds_digit_value (table_place_of_byte b) ≡ 0
  mask : lane_mask_of_digit (table_place_of_byte b) ≡ 0

far : (b : ℕ) → b < 256 → is_digit b ≡ false → 10 ≤ table_place_of_byte b
far b lt e = by (leb 48 b) refl (leb b 57) refl e
  where
    by : (p : Bool) → leb 48 b ≡ p → (q : Bool) → leb b 57 ≡ q → (p && q) ≡ false → 10 ≤ table_place_of_byte b
    by true e true f o = cc
    by true e false f o = let more : 57 < b = grind (arith, nat_tests) in omega arith
    by false e q f o = let less : b < 48 = grind (arith, nat_tests) in omega arith

adds_nothing : (b : ℕ) → b < 256 → is_digit b ≡ false → AddsNothing b
adds_nothing b lt e =
    let high = higher (table_place_of_byte b) (far b lt e) in
    record { ten = rw high refl; hundred = rw high refl; mask = rw high refl }

-- ---- words in terms of their last bytes

and_ones : (n : ℕ) → n < 256 → bit_and 255 n ≡ n
and_ones n lt = let all : n % 2 ^ 8 ≡ n = omega arith in and_comm 255 n ∙ and_mask n 8 ∙ all

and_none : (n : ℕ) → bit_and n 0 ≡ 0
and_none n = let none : n % 2 ^ 0 ≡ 0 = omega arith in and_mask n 0 ∙ none

module _ (bytes : List ℕ) (size : length bytes ≡ 64) (fits : (k : ℕ) → get_or bytes k 0 < 256) where
  abbrev byte : ℕ → ℕ
  byte p = get_or bytes p 0

  before : (p : ℕ) → p + 1 < 64 → place_of_lane_before (p + 1) ≡ p
  before p lt = omega arith

  -- nothing is added before a byte that is not a digit
  more_of_none : (p : ℕ) → is_digit (byte p) ≡ false → two_digit_value_at_position bytes p ≡ 0
  more_of_none p e =
      let is = adds_nothing (byte p) (fits p) e in
      let n = hundreds_digit_value (table_place_of_byte_at_position bytes (place_of_lane_before p)) in
      let none : capped_sum 0 0 ≡ 0 = refl in
      ap₂ capped_sum is.ten (ap (λ m. bit_and m n) is.mask ∙ and_comm 0 n ∙ and_none n) ∙ none

  more_of_one : (p : ℕ) → p + 1 < 64 → is_digit (byte p) ≡ false → is_digit (byte (p + 1)) ≡ true → two_digit_value_at_position bytes (p + 1) ≡ 10 * (byte (p + 1) - 48)
  more_of_one p lt e f =
      let no = adds_nothing (byte p) (fits p) e in
      let is = adding (byte (p + 1)) f in
      let m = lane_mask_of_digit (table_place_of_byte_at_position bytes (p + 1)) in
      let sum : capped_sum (10 * (byte (p + 1) - 48)) 0 ≡ 10 * (byte (p + 1) - 48) = omega (arith, is.least, is.most) in
      ap₂ capped_sum is.ten (ap (λ q. bit_and m (hundreds_digit_value (table_place_of_byte_at_position bytes q))) (before p lt) ∙ ap (bit_and m) no.hundred ∙ and_none m) ∙ sum

  more_of_two : (p : ℕ) → p + 1 < 64 → is_digit (byte p) ≡ true → is_digit (byte (p + 1)) ≡ true
      → two_digit_value_at_position bytes (p + 1) ≡ capped_sum (10 * (byte (p + 1) - 48))
      (min (100 * (byte p - 48)) 255)
  more_of_two p lt e f =
      let no = adding (byte p) e in
      let is = adding (byte (p + 1)) f in
      let m = lane_mask_of_digit (table_place_of_byte_at_position bytes (p + 1)) in
      let n = min (100 * (byte p - 48)) 255 in
      ap₂ capped_sum is.ten (ap (λ q. bit_and m (hundreds_digit_value (table_place_of_byte_at_position bytes q))) (before p lt) ∙ ap₂ bit_and is.mask no.hundred ∙ and_ones n (omega arith))

  front : (p : ℕ) → p < 64 → drop p bytes ≡ byte p ∷ drop (p + 1) bytes
  front p lt = drop_more bytes p 0 (omega (arith, size))

  module _ (values : List ℕ) (at : ℕ) (none : is_digit (byte at) ≡ false) where
    abbrev IsWord : ℕ → Type 0
    IsWord n = (get_or values (at + 1 + n) 0 ≡ value_of_digits (take (n + 1) (drop (at + 1) bytes))) × (get_or values (at + 1 + n) 0 < 255)

    abbrev Digits : ℕ → Type 0
    Digits n = list_all is_digit (take (n + 1) (drop (at + 1) bytes)) ≡ true

    one_taken : at + 1 < 64 → take 1 (drop (at + 1) bytes) ≡ byte (at + 1) ∷ []
    one_taken lt = ap (take 1) (front (at + 1) lt)

    two_taken : at + 1 + 1 < 64 → take 2 (drop (at + 1) bytes) ≡ byte (at + 1) ∷ byte (at + 1 + 1) ∷ []
    two_taken lt = ap (take 2) (front (at + 1) (omega arith)) ∙ ap (λ (l : List ℕ). byte (at + 1) ∷ take 1 l) (front (at + 1 + 1) lt)

    three_taken : at + 1 + 1 + 1 < 64 → take 3 (drop (at + 1) bytes) ≡ byte (at + 1) ∷ byte (at + 1 + 1) ∷ byte (at + 1 + 1 + 1) ∷ []
    three_taken lt =
        ap (take 3) (front (at + 1) (omega arith)) ∙ ap (λ (l : List ℕ). byte (at + 1) ∷ take 2 l) (front (at + 1 + 1) (omega arith))
        ∙ ap (λ (l : List ℕ). byte (at + 1) ∷ byte (at + 1 + 1) ∷ take 1 l) (front (at + 1 + 1 + 1) lt)

    one_digit : at + 1 < 64 → Digits 0 → is_digit (byte (at + 1)) ≡ true
    one_digit lt digits = (both (is_digit (byte (at + 1))) true (sym (ap (list_all is_digit) (one_taken lt)) ∙ digits)).0

    two_digits : at + 1 + 1 < 64 → Digits 1 → (is_digit (byte (at + 1)) ≡ true) × (is_digit (byte (at + 1 + 1)) ≡ true)
    two_digits lt digits =
        let first = both (is_digit (byte (at + 1))) (is_digit (byte (at + 1 + 1)) && true) (sym (ap (list_all is_digit) (two_taken lt)) ∙ digits) in
        (first.0, (both (is_digit (byte (at + 1 + 1))) true first.1).0)

    three_digits : at + 1 + 1 + 1 < 64 → Digits 2 → (is_digit (byte (at + 1)) ≡ true) × ((is_digit (byte (at + 1 + 1)) ≡ true) × (is_digit (byte (at + 1 + 1 + 1)) ≡ true))
    three_digits lt digits =
        let first = both (is_digit (byte (at + 1))) (is_digit (byte (at + 1 + 1)) && (is_digit (byte (at + 1 + 1 + 1)) && true)) (sym (ap (list_all is_digit) (three_taken lt)) ∙ digits) in
        let second = both (is_digit (byte (at + 1 + 1))) (is_digit (byte (at + 1 + 1 + 1)) && true) first.1 in
        (first.0, (second.0, (both (is_digit (byte (at + 1 + 1 + 1))) true second.1).0))

    -- a word of one digit has the value of the digit
    of_one : (m : ℕ) → m ≡ 0 → at + 1 < 64 → Digits 0 → get_or values (at + 1) 0 ≡ capped_sum (ones_digit_value (table_place_of_byte_at_position bytes (at + 1))) m → IsWord 0
    of_one m nothing lt digits value =
        let is = adding (byte (at + 1)) (one_digit lt digits) in
        let here : at + 1 + 0 ≡ at + 1 = omega arith in
        let v = ap (λ p. get_or values p 0) here ∙ value ∙ ap₂ capped_sum is.one nothing in
        let sum = ap value_of_digits (one_taken lt) in
        (omega (arith, v, sum, is.least, is.most), omega (arith, v, is.least, is.most))

    of_two : (m : ℕ) → m ≡ 10 * (byte (at + 1) - 48) → at + 1 + 1 < 64 → Digits 1 → get_or values (at + 1 + 1) 0 ≡ capped_sum (ones_digit_value (table_place_of_byte_at_position bytes (at + 1 + 1))) m → IsWord 1
    of_two m ten lt digits value =
        let both = two_digits lt digits in
        let first = adding (byte (at + 1)) both.0 in
        let is = adding (byte (at + 1 + 1)) both.1 in
        let v = value ∙ ap₂ capped_sum is.one ten in
        let sum = ap value_of_digits (two_taken lt) in
        (omega (arith, v, sum, first.least, first.most, is.least, is.most), omega (arith, v, first.least, first.most, is.least, is.most))

    of_three : (m : ℕ) → m ≡ capped_sum (10 * (byte (at + 1 + 1) - 48)) (min (100 * (byte (at + 1) - 48)) 255) → at + 1 + 1 + 1 < 64 → Digits 2
        → get_or values (at + 1 + 1 + 1) 0 ≡ capped_sum (ones_digit_value (table_place_of_byte_at_position bytes (at + 1 + 1 + 1))) m → get_or values (at + 1 + 1 + 1) 0 < 255 → IsWord 2
    of_three m more lt digits value small =
        let all = three_digits lt digits in
        let first = adding (byte (at + 1)) all.0 in
        let second = adding (byte (at + 1 + 1)) all.1.0 in
        let is = adding (byte (at + 1 + 1 + 1)) all.1.1 in
        let here : at + 1 + 2 ≡ at + 1 + 1 + 1 = omega arith in
        let v = value ∙ ap₂ capped_sum is.one more in
        let sum = ap value_of_digits (three_taken lt) in
        let low = ap (λ p. get_or values p 0) here in
        (low ∙ omega (arith, v, small, sum, first.least, first.most, second.least, second.most, is.least, is.most), omega (arith, low, small))

  -- the sum of two digits is the value of a word of one or two
  pub value_at_two : (values : List ℕ)
      → ((p : ℕ) → p < 64
      → get_or values p 0 ≡ capped_sum (ones_digit_value (table_place_of_byte_at_position bytes p))
      (tens_digit_value (table_place_of_byte_at_position bytes (place_of_lane_before p))))
      → (at n : ℕ) → n < 2 → at + 1 + n < 64 → (none : is_digit (byte at) ≡ false) → Digits values at none n
      → IsWord values at none n
  value_at_two values sums at zero few lt none digits =
      let here : at + 1 < 64 = omega arith in
      let no = adds_nothing (byte at) (fits at) none in
      of_one values at none (tens_digit_value (table_place_of_byte_at_position bytes (place_of_lane_before (at + 1))))
      (ap (λ q. tens_digit_value (table_place_of_byte_at_position bytes q)) (before at here)
      ∙ no.ten) here digits (sums (at + 1) here)
  value_at_two values sums at (suc zero) few lt none digits =
      let here : at + 1 + 1 < 64 = omega arith in
      let first = adding (byte (at + 1)) (two_digits values at none here digits).0 in
      of_two values at none (tens_digit_value (table_place_of_byte_at_position bytes
      (place_of_lane_before (at + 1 + 1))))
      (ap (λ q. tens_digit_value (table_place_of_byte_at_position bytes q)) (before (at + 1) here)
      ∙ first.ten) here digits (sums (at + 1 + 1) here)
  value_at_two values sums at (suc (suc n)) few lt none digits = absurd (omega arith)

  -- the sums of two digits are the values of words if no three digits are in a row
  pub values_of_two : (values : List ℕ)
      → ((p : ℕ) → p < 64
      → get_or values p 0 ≡ capped_sum (ones_digit_value (table_place_of_byte_at_position bytes p))
      (tens_digit_value (table_place_of_byte_at_position bytes (place_of_lane_before p))))
      → ((p : ℕ) → p + 2 < 64 → is_digit (byte p) ≡ true → is_digit (byte (p + 1)) ≡ true
      → is_digit (byte (p + 2)) ≡ true → ⊥) → AreWordValuesAtLastDigits bytes values
  values_of_two values sums not_three at zero few lt none digits = value_at_two values sums at zero (omega arith) lt
      none digits
  values_of_two values sums not_three at (suc zero) few lt none digits = value_at_two values sums at (suc zero)
      (omega arith) lt none digits
  values_of_two values sums not_three at (suc (suc zero)) few lt none digits =
      let here : at + 1 + 1 + 1 < 64 = omega arith in
      let all = three_digits values at none here digits in
      let third : at + 1 + 1 + 1 ≡ at + 1 + 2 = omega arith in
      let within : at + 1 + 2 < 64 = omega arith in
      absurd (not_three (at + 1) within all.0 all.1.0 (ap (λ p. is_digit (byte p)) (sym third) ∙ all.1.1))
  values_of_two values sums not_three at (suc (suc (suc n))) few lt none digits = absurd (omega arith)

  -- the sum of three digits is the value of a word of at most three if it is below 255
  pub value_at_three : (values : List ℕ)
      → ((p : ℕ) → p < 64 → get_or values p 0 ≡ capped_sum (ones_digit_value (table_place_of_byte_at_position bytes p))
      (two_digit_value_at_position bytes (place_of_lane_before p)))
      → (at n : ℕ) → n < 3 → at + 1 + n < 64 → (none : is_digit (byte at) ≡ false) → Digits values at none n
      → get_or values (at + 1 + n) 0 < 255 → IsWord values at none n
  value_at_three values sums at zero few lt none digits small =
      let here : at + 1 < 64 = omega arith in
      of_one values at none (two_digit_value_at_position bytes (place_of_lane_before (at + 1)))
      (ap (two_digit_value_at_position bytes) (before at here) ∙ more_of_none at none) here digits (sums (at + 1) here)
  value_at_three values sums at (suc zero) few lt none digits small =
      let here : at + 1 + 1 < 64 = omega arith in
      let first : at + 1 < 64 = omega arith in
      of_two values at none (two_digit_value_at_position bytes (place_of_lane_before (at + 1 + 1)))
      (ap (two_digit_value_at_position bytes) (before (at + 1) here)
      ∙ more_of_one at first none (two_digits values at none here digits).0) here digits (sums (at + 1 + 1) here)
  value_at_three values sums at (suc (suc zero)) few lt none digits small =
      let here : at + 1 + 1 + 1 < 64 = omega arith in
      let second : at + 1 + 1 < 64 = omega arith in
      let all = three_digits values at none here digits in
      let third : at + 1 + 2 ≡ at + 1 + 1 + 1 = omega arith in
      of_three values at none (two_digit_value_at_position bytes (place_of_lane_before (at + 1 + 1 + 1)))
      (ap (two_digit_value_at_position bytes) (before (at + 1 + 1) here)
      ∙ more_of_two (at + 1) second all.0 all.1.0) here digits
      (sums (at + 1 + 1 + 1) here) (rw third at small)
  value_at_three values sums at (suc (suc (suc n))) few lt none digits small = absurd (omega arith)

  -- the sums of three digits are the values of words if each sum is below 255
  pub values_of_three : (values : List ℕ)
      → ((p : ℕ) → p < 64 → get_or values p 0 ≡ capped_sum (ones_digit_value (table_place_of_byte_at_position bytes p))
      (two_digit_value_at_position bytes (place_of_lane_before p)))
      → ((p : ℕ) → p < 64 → is_digit (byte p) ≡ true → get_or values p 0 < 255) → AreWordValuesAtLastDigits bytes values
  values_of_three values sums small at n few lt none digits =
      value_at_three values sums at n few lt none digits (small (at + 1 + n) lt (last at n few lt none digits))
    where
      last : (at n : ℕ) → n < 3 → at + 1 + n < 64 → (none : is_digit (byte at) ≡ false) → Digits values at none n
          → is_digit (byte (at + 1 + n)) ≡ true
      last at zero few lt none digits =
          let here : at + 1 + 0 ≡ at + 1 = omega arith in
          ap (λ p. is_digit (byte p)) here ∙ one_digit values at none (omega arith) digits
      last at (suc zero) few lt none digits = (two_digits values at none (omega arith) digits).1
      last at (suc (suc zero)) few lt none digits =
          let here : at + 1 + 2 ≡ at + 1 + 1 + 1 = omega arith in
          ap (λ p. is_digit (byte p)) here ∙ (three_digits values at none (omega arith) digits).1.1
      last at (suc (suc (suc n))) few lt none digits = absurd (omega arith)
