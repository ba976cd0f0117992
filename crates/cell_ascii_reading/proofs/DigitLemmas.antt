-- Bounds of the value of digits.
use Rattle.std.proofs.Common.{◌≡◌, ℕ, ◌+◌, ◌-◌, ◌*◌, ◌^◌, ◌<◌, ◌≤◌, Bool, true, false, List, [], ◌∷◌, length, ap, sym, ◌∙◌, refl, arith, Some}
use Rattle.std.specs.Prelude.{fold, ◌&&◌, nat_le}
use Rattle.std.specs.List.{list_all}
use Rattle.std.proofs.lemmas.Bool.Decides.{nat_tests}
use Rattle.std.proofs.Math.Nat.{mul-le-mul_right, pow-suc, pow-le-pow_right, one-le-pow}
use Rattle.std.proofs.lemmas.Nat.{pow-add}
use Rattle.cell_ascii_meaning.specs.EdgeNumbers.{is_digit, value_of_digits, decimal_in_coordinate_units}
use Rattle.cell_core_values.specs.Capped.{capped_at_10_to_18}

both : (a b : Bool) → (a && b) ≡ true → (a ≡ true) × (b ≡ true)
both true b e = (refl, e)
both false b e = cc

digit_most : (b : ℕ) → is_digit b ≡ true → b - 48 ≤ 9
digit_most b e = grind (arith, nat_tests)

abbrev next : ℕ → ℕ → ℕ
next n b = n * 10 + (b - 48)

-- one more digit keeps the value below ten times its bound
one_more : (a d p : ℕ) → d ≤ 9 → (a * 10 + d + 1) * p ≤ (a + 1) * (p * 10)
one_more a d p h = omega (arith, mul-le-mul_right p h)

fold_below : (a : ℕ) (bs : List ℕ) → list_all is_digit bs ≡ true → fold next a bs < (a + 1) * 10 ^ length bs
fold_below a [] e = omega arith
fold_below a (b ∷ bs) e =
    let parts = both (is_digit b) (list_all is_digit bs) e in
    let rest : fold next (a * 10 + (b - 48)) bs < (a * 10 + (b - 48) + 1) * 10 ^ length bs = fold_below (a * 10 + (b - 48)) bs parts.1 in
    let grows = one_more a (b - 48) (10 ^ length bs) (digit_most b parts.0) in
    let power : 10 ^ length (b ∷ bs) ≡ 10 ^ length bs * 10 = pow-suc 10 (length bs) in
    rw power (omega (arith, rest, grows))

-- the value of n digits is below 10^n
pub value_below : (bs : List ℕ) → list_all is_digit bs ≡ true → value_of_digits bs < 10 ^ length bs
value_below bs e = omega (arith, fold_below 0 bs e)

pub whole_below : (bs : List ℕ) → list_all is_digit bs ≡ true → length bs ≤ 10 → value_of_digits bs < 10000000000
whole_below bs e h = let p : 10 ^ length bs ≤ 10 ^ 10 = pow-le-pow_right (omega arith) h in omega (arith, value_below bs e)

split_power : (k : ℕ) → k ≤ 8 → 10 ^ k * 10 ^ (8 - k) ≡ 100000000
split_power k h = let sum : k + (8 - k) ≡ 8 = omega arith in sym (pow-add 10 k (8 - k)) ∙ ap (λ (n : ℕ). 10 ^ n) sum

-- the digits after the point denote less than 1
pub part_below : (bs : List ℕ) → list_all is_digit bs ≡ true → length bs ≤ 8 → value_of_digits bs * 10 ^ (8 - length bs) < 100000000
part_below bs e h =
    let q = 10 ^ (8 - length bs) in
    let some : 1 ≤ q = one-le-pow (8 - length bs) 10 (omega arith) in
    let above : (value_of_digits bs + 1) * q ≤ 10 ^ length bs * q = mul-le-mul_right q (omega (arith, value_below bs e)) in
    let whole : 10 ^ length bs * q ≡ 100000000 = split_power (length bs) h in
    omega (arith, above, whole, some)

pub short_whole : (w p : ℕ) → ((nat_le w 10 && nat_le p 8) && nat_le 1 (w + p)) ≡ true → w ≤ 10
short_whole w p e = let h = (both (nat_le w 10) (nat_le p 8) (both (nat_le w 10 && nat_le p 8) (nat_le 1 (w + p)) e).0).0 in grind (arith, nat_tests)

pub short_part : (w p : ℕ) → ((nat_le w 10 && nat_le p 8) && nat_le 1 (w + p)) ≡ true → p ≤ 8
short_part w p e = let h = (both (nat_le w 10) (nat_le p 8) (both (nat_le w 10 && nat_le p 8) (nat_le 1 (w + p)) e).0).1 in grind (arith, nat_tests)

part_least : (bs : List ℕ) → list_all is_digit bs ≡ true → length bs ≤ 8 → value_of_digits bs < 100000000
part_least bs e h = let p : 10 ^ length bs ≤ 10 ^ 8 = pow-le-pow_right (omega arith) h in omega (arith, value_below bs e)

module _ (whole part : List ℕ) (whole_digits : list_all is_digit whole ≡ true) (part_digits : list_all is_digit part ≡ true)
    (short : ((nat_le (length whole) 10 && nat_le (length part) 8) && nat_le 1 (length whole + length part)) ≡ true) where
  pub whole_capped : capped_at_10_to_18 (value_of_digits whole) ≡ value_of_digits whole
  whole_capped = let h = short_whole (length whole) (length part) short in omega (arith, whole_below whole whole_digits h)

  pub part_capped : capped_at_10_to_18 (value_of_digits part) ≡ value_of_digits part
  part_capped = let h = short_part (length whole) (length part) short in omega (arith, part_least part part_digits h)

  pub in_units_is : decimal_in_coordinate_units whole part ≡ Some (value_of_digits whole * 100000000 + value_of_digits part * 10 ^ (8 - length part))
  in_units_is = rw (whole_digits, part_digits, short) refl

  pub units_below : value_of_digits whole * 100000000 + value_of_digits part * 10 ^ (8 - length part) < 1000000000000000000
  units_below =
      let h = short_whole (length whole) (length part) short in
      let k = short_part (length whole) (length part) short in
      omega (arith, whole_below whole whole_digits h, part_below part part_digits k)
