-- The bits of null words and of numbers.
use Rattle.std.proofs.Common.{◌≡◌, ℕ, zero, suc, ◌+◌, ◌-◌, ◌*◌, ◌%◌, ◌^◌, ◌<◌, ◌≤◌, min, max}
use Rattle.std.proofs.Common.{refl, sym, ap, ◌∙◌}
use Rattle.std.proofs.Common.{arith, w64}
use Rattle.std.specs.Int.{bit_at}
use Rattle.std.proofs.lemmas.Nat.{or_lt, pow_pos}
use Rattle.std.proofs.lemmas.Nat.Bits.{bit_at-zero, bit_at-lt, bit_at_and, bit_at_or, bit_at_not, bit_at_lowest}
use Rattle.std.proofs.lemmas.Nat.Bits.{bit_at_cat_low, bit_at_cat_high}
use Rattle.cell_ascii_lanes.specs.NullLanes.{AreOtherStarts, AreShortNumbers, AreTwoDigits, BeginsNumber}
use Rattle.cell_ascii_lanes.proofs.ByteBitLemmas.{bit_below, shl_one}
use lib.Bits.{bit_or, bit_and}

-- ---- shifted bits

pub following_first : (bits marked : ℕ) → bit_at (bit_and bits (marked * 2 % 18446744073709551616)) 0 ≡ 0
following_first bits marked =
    omega (arith, bit_at_and bits (marked * 2 % 2 ^ 64) 0, bit_at_lowest (marked * 2 % 2 ^ 64))

pub following_each : (bits marked i : ℕ) → i + 1 < 64
    → bit_at (bit_and bits (marked * 2 % 18446744073709551616)) (i + 1) ≡ min (bit_at bits (i + 1)) (bit_at marked i)
following_each bits marked i lt =
    bit_at_and bits (marked * 2 % 2 ^ 64) (i + 1) ∙ ap (min (bit_at bits (i + 1))) (shl_one marked i lt)

pub moved_low : (bits size i : ℕ) → size ≤ 8 → i < size → bit_at (bits * 2 ^ size % 18446744073709551616) i ≡ 0
moved_low bits size i few lt =
    let all : bits * 2 ^ size ≡ bits * 2 ^ size + 0 = omega arith in
    bit_below (bits * 2 ^ size) i (omega arith) ∙ ap (λ n. bit_at n i) all ∙ bit_at_cat_low bits size 0 i lt
    ∙ bit_at-zero i

pub moved_each : (bits size i : ℕ) → i + size < 64
    → bit_at (bits * 2 ^ size % 18446744073709551616) (i + size) ≡ bit_at bits i
moved_each bits size i lt =
    let all : bits * 2 ^ size ≡ bits * 2 ^ size + 0 = omega arith in
    let back : i + size - size ≡ i = omega arith in
    bit_below (bits * 2 ^ size) (i + size) lt ∙ ap (λ n. bit_at n (i + size)) all
    ∙ bit_at_cat_high bits size 0 (i + size) (pow_pos size) (omega arith) ∙ ap (bit_at bits) back

-- ---- words that do not begin with a digit

pub starts_are : (blanks digits starts : ℕ) → blanks < 2 ^ 64 → digits < 2 ^ 64 → bit_at starts 0 ≡ 0
    → ((i : ℕ) → i + 1 < 64
    → bit_at starts (i + 1) ≡ min (bit_at (18446744073709551615 - bit_or blanks digits) (i + 1)) (bit_at blanks i))
    → AreOtherStarts blanks digits starts
starts_are blanks digits starts B D first is = record {
  first = first;
  each = λ i lt blank word digit. omega (arith, is i lt, neither i lt, bit_at_or blanks digits (i + 1));
  only = λ i lt start.
      let here = is i lt in
      let none = neither i lt in
      let all = bit_at_or blanks digits (i + 1) in
      let low = bit_at-lt blanks i in
      (omega (arith, here, start, low), (omega (arith, here, none, all, start), omega (arith, here, none, all, start)));
}
  where
    neither : (i : ℕ) → i + 1 < 64
        → bit_at (18446744073709551615 - bit_or blanks digits) (i + 1) ≡ 1 - bit_at (bit_or blanks digits) (i + 1)
    neither i lt = bit_at_not w64 (bit_or blanks digits) (i + 1) (or_lt 64 blanks digits B D) lt

-- ---- numbers of at most three digits

-- each byte after a marked byte
abbrev Follows : ℕ → ℕ → ℕ → Type 0
Follows bits marked result = (i : ℕ) → i + 1 < 64 → bit_at result (i + 1) ≡ min (bit_at bits (i + 1)) (bit_at marked i)

module _ (blanks digits marked first second third fourth : ℕ) (B : blanks < 2 ^ 64) (D : digits < 2 ^ 64)
    (first_is : Follows digits blanks first) (second_is : Follows (18446744073709551615 - blanks) first second)
    (third_is : Follows (18446744073709551615 - blanks) second third)
    (fourth_is : Follows (18446744073709551615 - blanks) third fourth) where
  word : (i : ℕ) → i < 64 → bit_at (18446744073709551615 - blanks) i ≡ 1 - bit_at blanks i
  word i lt = bit_at_not w64 blanks i B lt

  begun : (i : ℕ) → i + 1 < 64 → BeginsNumber blanks digits i → bit_at first (i + 1) ≡ 1
  begun i lt is = omega (arith, first_is i lt, is.blank, is.digit)

  second_at : (i : ℕ) → i + 2 < 64 → BeginsNumber blanks digits i → bit_at blanks (i + 2) ≡ 0
      → bit_at second (i + 2) ≡ 1
  second_at i lt is off =
      let next : i + 1 + 1 ≡ i + 2 = omega arith in
      let here = rw next at (second_is (i + 1) (omega arith)) in
      omega (arith, here, word (i + 2) lt, off, begun i (omega arith) is)

  third_at : (i : ℕ) → i + 3 < 64 → BeginsNumber blanks digits i → bit_at blanks (i + 2) ≡ 0
      → bit_at blanks (i + 3) ≡ 0 → bit_at third (i + 3) ≡ 1
  third_at i lt is off off_too =
      let next : i + 2 + 1 ≡ i + 3 = omega arith in
      let here = rw next at (third_is (i + 2) (omega arith)) in
      omega (arith, here, word (i + 3) lt, off_too, second_at i (omega arith) is off)

  fourth_at : (i : ℕ) → i + 4 < 64 → BeginsNumber blanks digits i → bit_at blanks (i + 2) ≡ 0
      → bit_at blanks (i + 3) ≡ 0 → bit_at blanks (i + 4) ≡ 0 → bit_at fourth (i + 4) ≡ 1
  fourth_at i lt is off off_too off_again =
      let next : i + 3 + 1 ≡ i + 4 = omega arith in
      let here = rw next at (fourth_is (i + 3) (omega arith)) in
      omega (arith, here, word (i + 4) lt, off_again, third_at i (omega arith) is off off_too)

  pub two_only : third ≡ 0 → AreTwoDigits blanks digits
  two_only none = λ i lt is off.
      let nothing = ap (λ n. bit_at n (i + 3)) none ∙ bit_at-zero (i + 3) in
      by i lt is off nothing (bit_at blanks (i + 3)) refl (bit_at-lt blanks (i + 3))
    where
      by : (i : ℕ) → i + 3 < 64 → BeginsNumber blanks digits i → bit_at blanks (i + 2) ≡ 0 → bit_at third (i + 3) ≡ 0
          → (b : ℕ) → bit_at blanks (i + 3) ≡ b → b < 2 → bit_at blanks (i + 3) ≡ 1
      by i lt is off nothing zero e few = absurd (omega (arith, third_at i lt is off e, nothing))
      by i lt is off nothing (suc b) e few = omega arith

  abbrev odd : ℕ
  odd = bit_and (bit_or second third) (18446744073709551615 - digits)

  abbrev cut : ℕ
  cut = bit_and (18446744073709551615 - blanks) (bit_or marked 1)

  record NoBit (i : ℕ) : Type 0 where
    no_odd : bit_at odd i ≡ 0
    no_fourth : bit_at fourth i ≡ 0
    no_cut : bit_at cut i ≡ 0

  none : bit_or (bit_or odd fourth) cut ≡ 0 → (i : ℕ) → NoBit i
  none e i =
      let sum : max (max (bit_at odd i) (bit_at fourth i)) (bit_at cut i) ≡ 0 =
      ap (λ m. max m (bit_at cut i)) (sym (bit_at_or odd fourth i)) ∙ sym (bit_at_or (bit_or odd fourth) cut i)
      ∙ ap (λ m. bit_at m i) e ∙ bit_at-zero i in
      record { no_odd = omega (arith, sum); no_fourth = omega (arith, sum); no_cut = omega (arith, sum) }

  pub short_are : bit_or (bit_or odd fourth) cut ≡ 0 → AreShortNumbers blanks digits marked
  short_are e = record {
    first =
        let one : bit_at 1 0 ≡ 1 = refl in
        omega (
          arith,
          (none e 0).no_cut,
          bit_at_and (18446744073709551615 - blanks) (bit_or marked 1) 0,
          bit_at_or
              marked 1 0,
          one,
          word 0 (omega arith),
          bit_at-lt blanks 0,
        );
    behind = λ i lt on.
        omega (
          arith,
          (none e i).no_cut,
          bit_at_and (18446744073709551615 - blanks) (bit_or marked 1) i,
          bit_at_or
              marked 1 i,
          on,
          word i lt,
          bit_at-lt blanks i,
        );
    second = λ i lt is off. digit (i + 2) lt (second_at i lt is off);
    third = λ i lt is off off_too. digit_too (i + 3) lt (third_at i lt is off off_too);
    few = λ i lt is off off_too. by i lt is off off_too (bit_at blanks (i + 4)) refl (bit_at-lt blanks (i + 4));
  }
    where
      not_odd : (i : ℕ) → i < 64 → min (max (bit_at second i) (bit_at third i)) (1 - bit_at digits i) ≡ 0
      not_odd i lt =
          omega (
            arith,
            (none e i).no_odd,
            bit_at_and (bit_or second third) (18446744073709551615 - digits) i,
            bit_at_or second third i,
            bit_at_not w64 digits i D lt,
          )

      digit : (i : ℕ) → i < 64 → bit_at second i ≡ 1 → bit_at digits i ≡ 1
      digit i lt on = omega (arith, not_odd i lt, on, bit_at-lt digits i)

      digit_too : (i : ℕ) → i < 64 → bit_at third i ≡ 1 → bit_at digits i ≡ 1
      digit_too i lt on = omega (arith, not_odd i lt, on, bit_at-lt digits i)

      by : (i : ℕ) → i + 4 < 64 → BeginsNumber blanks digits i → bit_at blanks (i + 2) ≡ 0
          → bit_at blanks (i + 3) ≡ 0 → (b : ℕ) → bit_at blanks (i + 4) ≡ b → b < 2 → bit_at blanks (i + 4) ≡ 1
      by i lt is off off_too zero f few = absurd
          (omega (arith, fourth_at i lt is off off_too f, (none e (i + 4)).no_fourth))
      by i lt is off off_too (suc b) f few = omega arith
