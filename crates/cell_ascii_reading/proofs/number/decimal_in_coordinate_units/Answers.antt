use Rattle.std.proofs.Common.{◌≡◌, ℕ, List, ◌+◌, ◌-◌, ◌*◌, ◌^◌, ◌<◌, true, length, sym, ◌∙◌, arith, Some}
use Rattle.std.specs.Prelude.{nat_le, ◌&&◌}
use Rattle.std.specs.List.{list_all}
use Rattle.cell_ascii_meaning.specs.EdgeNumbers.{is_digit, value_of_digits, decimal_in_coordinate_units}
use Rattle.cell_core_values.specs.Capped.{capped_at_10_to_18}
use Rattle.cell_ascii_reading.proofs.DigitLemmas.{whole_capped, part_capped, in_units_is, units_below, whole_below, short_whole}
use Rattle.cell_ascii_reading.proofs.number.decimal_in_coordinate_units.Goals as goal

-- the computed value is below its bound
below : (whole part : List ℕ) (a b scale : ℕ) → list_all is_digit whole ≡ true → list_all is_digit part ≡ true
    → ((nat_le (length whole) 10 && nat_le (length part) 8) && nat_le 1 (length whole + length part)) ≡ true
    → a ≡ capped_at_10_to_18 (value_of_digits whole) → b ≡ capped_at_10_to_18 (value_of_digits part)
    → scale ≡ 10 ^ (8 - length part)
    → a * 100000000 + b * scale < 1000000000000000000
below whole part a b scale dw dp short ea eb es = rw (ea ∙ whole_capped whole part dw dp short, eb ∙ part_capped whole part dw dp short, es) (units_below whole part dw dp short)

exact : (whole part : List ℕ) (a b scale : ℕ) → list_all is_digit whole ≡ true → list_all is_digit part ≡ true
    → ((nat_le (length whole) 10 && nat_le (length part) 8) && nat_le 1 (length whole + length part)) ≡ true
    → a ≡ capped_at_10_to_18 (value_of_digits whole) → b ≡ capped_at_10_to_18 (value_of_digits part)
    → scale ≡ 10 ^ (8 - length part)
    → Some (a * 100000000 + b * scale) ≡ decimal_in_coordinate_units whole part
exact whole part a b scale dw dp short ea eb es = rw (ea ∙ whole_capped whole part dw dp short, eb ∙ part_capped whole part dw dp short, es) (sym (in_units_is whole part dw dp short))

pub overflow_mul-result : goal.overflow_mul-result
overflow_mul-result c =
    let dw : list_all is_digit c.args.whole.now ≡ true = sym c.are_digits.ensures ∙ c.if-not-are_digits.false in
    let dp : list_all is_digit c.args.part.now ≡ true = sym c.are_digits-else-not-are_digits.ensures ∙ c.if-not-are_digits-2.false in
    let least : c.value_of_digits.result < 10000000000 = rw (c.value_of_digits.ensures.value ∙ whole_capped c.args.whole.now c.args.part.now dw dp (sym c.are_few_coordinate_digits.ensures ∙ c.if-not-are_few_coordinate_digits.false)) (whole_below c.args.whole.now dw (short_whole (length c.args.whole.now) (length c.args.part.now) (sym c.are_few_coordinate_digits.ensures ∙ c.if-not-are_few_coordinate_digits.false))) in
    omega (arith, least)

pub overflow_mul-result-2 : goal.overflow_mul-result-2
overflow_mul-result-2 c =
    let dw : list_all is_digit c.args.whole.now ≡ true = sym c.are_digits.ensures ∙ c.if-not-are_digits.false in
    let dp : list_all is_digit c.args.part.now ≡ true = sym c.are_digits-else-not-are_digits.ensures ∙ c.if-not-are_digits-2.false in
    let most = below c.args.whole.now c.args.part.now c.value_of_digits.result c.value_of_digits-2.result c.pow-scale.result dw dp (sym c.are_few_coordinate_digits.ensures ∙ c.if-not-are_few_coordinate_digits.false) c.value_of_digits.ensures.value c.value_of_digits-2.ensures.value c.pow-scale.ensures in
    omega (arith, most)

pub overflow_add-result : goal.overflow_add-result
overflow_add-result c =
    let dw : list_all is_digit c.args.whole.now ≡ true = sym c.are_digits.ensures ∙ c.if-not-are_digits.false in
    let dp : list_all is_digit c.args.part.now ≡ true = sym c.are_digits-else-not-are_digits.ensures ∙ c.if-not-are_digits-2.false in
    let most = below c.args.whole.now c.args.part.now c.value_of_digits.result c.value_of_digits-2.result c.pow-scale.result dw dp (sym c.are_few_coordinate_digits.ensures ∙ c.if-not-are_few_coordinate_digits.false) c.value_of_digits.ensures.value c.value_of_digits-2.ensures.value c.pow-scale.ensures in
    omega (arith, most)

pub returns-clause-value : goal.returns-clause-value
returns-clause-value c =
    let dw : list_all is_digit c.args.whole.now ≡ true = sym c.are_digits.ensures ∙ c.if-not-are_digits.false in
    let dp : list_all is_digit c.args.part.now ≡ true = sym c.are_digits-else-not-are_digits.ensures ∙ c.if-not-are_digits-2.false in
    exact c.args.whole.now c.args.part.now c.value_of_digits.result c.value_of_digits-2.result c.pow-scale.result dw dp (sym c.are_few_coordinate_digits.ensures ∙ c.if-not-are_few_coordinate_digits.false) c.value_of_digits.ensures.value c.value_of_digits-2.ensures.value c.pow-scale.ensures

pub returns-clause-most : goal.returns-clause-most
returns-clause-most c =
    let dw : list_all is_digit c.args.whole.now ≡ true = sym c.are_digits.ensures ∙ c.if-not-are_digits.false in
    let dp : list_all is_digit c.args.part.now ≡ true = sym c.are_digits-else-not-are_digits.ensures ∙ c.if-not-are_digits-2.false in
    below c.args.whole.now c.args.part.now c.value_of_digits.result c.value_of_digits-2.result c.pow-scale.result dw dp (sym c.are_few_coordinate_digits.ensures ∙ c.if-not-are_few_coordinate_digits.false) c.value_of_digits.ensures.value c.value_of_digits-2.ensures.value c.pow-scale.ensures
