-- Each word of a block is the null text or a number of at most three digits.
use Rattle.std.proofs.Common.{◌≡◌, ℕ, zero, suc, ◌+◌, ◌-◌, ◌^◌, ◌<◌, ◌≤◌, leb, ltb, not, Bool, true, false, List}
use Rattle.std.proofs.Common.{map, length, take, drop, get_or, refl, sym, ap, ◌∙◌, arith}
use Rattle.std.proofs.Common.{length-take, length-drop, ◌⊎◌, inl, inr, w64}
use Rattle.std.specs.List.{list_all}
use Rattle.std.specs.Int.{bit_at}
use Rattle.std.proofs.lemmas.List.{get_or-drop, get_or-take, get_or_past}
use Rattle.std.proofs.lemmas.Bool.Decides.{nat_tests}
use Rattle.std.proofs.lemmas.Nat.Bits.{bit_at-zero, bit_at-lt, bit_at-trailing_zeros}
use Rattle.cell_core_values.specs.Digits.{is_digit, value_of_digits}
use Rattle.cell_ascii_meaning.specs.GridTokens.{is_space, is_word_byte}
use Rattle.cell_ascii_lanes.specs.NullLanes.{AreOtherStarts, AreShortNumbers, AreTwoDigits, AreNumberValues}
use Rattle.cell_ascii_lanes.specs.NullLanes.{BeginsNumber, IsNullKey, AreNulls, IsOtherLane}
use Rattle.cell_ascii_lanes.proofs.ByteBitLemmas.{bit}
use Rattle.cell_ascii_lanes.proofs.BlockByteLemmas.{all_from, one_from, space_no_digit, word_of_block, bit_of}
use Rattle.cell_ascii_lanes.proofs.DigitLemmas.{same_word}
use lib.Count.{count_trailing_zeros}
use lib.Lanes.{mask_l}

on : (b : Bool) → bit b ≡ 1 → b ≡ true
on true e = refl
on false e = absurd (omega arith)

unlike : (b : Bool) → b ≡ true → b ≡ false → ⊥
unlike true e f = cc
unlike false e f = cc

above : (a b : ℕ) → leb b a ≡ false → a < b
above a b e = grind (arith, nat_tests)

up_to : (a b : ℕ) → leb a b ≡ true → a ≤ b
up_to a b e = grind (arith, nat_tests)

under : (a b : ℕ) → ltb a b ≡ true → a < b
under a b e = grind (arith, nat_tests)

from : (a b : ℕ) → ltb a b ≡ false → b ≤ a
from a b e = grind (arith, nat_tests)

word_no_space : (b : ℕ) → is_word_byte b ≡ true → is_space b ≡ false
word_no_space b e = by (is_space b) refl e
  where
    by : (s : Bool) → is_space b ≡ s → not s ≡ true → is_space b ≡ false
    by true o n = cc
    by false o n = o

-- the words of a block at whose null words 255 is stored
pub record AreNullLanes (bs lanes : List ℕ) (key size : ℕ) : Type 0 where
  pub blanks : ℕ
  pub digits : ℕ
  pub starts : ℕ
  pub marked : ℕ
  pub has_three : Bool
  pub values : List ℕ
  pub blanks_are : blanks ≡ mask_l (map is_space (take 64 bs))
  pub digits_are : digits ≡ mask_l (map is_digit (take 64 bs))
  pub starts_are : AreOtherStarts blanks digits starts
  pub marked_low : (i : ℕ) → i < size → bit_at marked i ≡ 0
  pub marked_each : (i : ℕ) → i + size < 64 → bit_at marked (i + size) ≡ bit_at starts i
  pub short : AreShortNumbers blanks digits marked
  pub two : has_three ≡ false → AreTwoDigits blanks digits
  pub numbers : AreNumberValues (take 64 bs) blanks marked has_three values
  pub nulls : AreNulls starts key size bs lanes
  pub others : (q : ℕ) → q < 64 → IsOtherLane starts size q → get_or lanes q 0 ≡ get_or values q 0

-- the word is the null text, or a number of at most three digits, and its byte is at its last lane
abbrev pub IsNullWord : List ℕ → List ℕ → List ℕ → ℕ → ℕ → Type 0
IsNullWord bs lanes text at n = (take (n + 1) (drop (at + 1) bs) ≡ text) × (get_or lanes (at + 1 + n) 0 ≡ 255)

abbrev pub IsNumberWord : List ℕ → List ℕ → ℕ → ℕ → Type 0
IsNumberWord bs lanes at n = (list_all is_digit (take (n + 1) (drop (at + 1) bs)) ≡ true)
    × ((get_or lanes (at + 1 + n) 0 ≡ value_of_digits (take (n + 1) (drop (at + 1) bs)))
    × (get_or lanes (at + 1 + n) 0 < 255))

-- a number with a set bit is not 0
pub some_bits : (n p : ℕ) → bit_at n p ≡ 1 → 0 < n
some_bits zero p on = absurd (omega (arith, on, bit_at-zero p))
some_bits (suc n) p on = omega arith

-- words that do not begin with a digit are found only by a size above 0
pub some_size : (blanks digits starts marked size : ℕ) → starts < 2 ^ 64 → AreOtherStarts blanks digits starts
    → AreShortNumbers blanks digits marked
    → ((i : ℕ) → i + size < 64 → bit_at marked (i + size) ≡ bit_at starts i) → 0 < starts → 0 < size
some_size blanks digits starts marked zero fits are short moved some =
    let low = bit_at-trailing_zeros w64 starts some fits in
    absurd (by (count_trailing_zeros 64 starts) low.0 low.1)
  where
    by : (i : ℕ) → i < 64 → bit_at starts i ≡ 1 → ⊥
    by zero lt on = omega (arith, are.first, on)
    by (suc j) lt on =
        let next : j + 1 ≡ suc j = omega arith in
        let same : suc j + 0 ≡ suc j = omega arith in
        let is = are.only j (omega arith) (ap (bit_at starts) next ∙ on) in
        let blank = short.behind (suc j) lt (rw same at (moved (suc j) (omega arith)) ∙ on) in
        omega (arith, blank, sym (ap (bit_at blanks) next) ∙ is.1.0)
some_size blanks digits starts marked (suc size) fits are short moved some = omega arith

module _ (bs : List ℕ) (long : 72 ≤ length bs) (fits : (k : ℕ) → get_or bs k 0 < 256) (lanes text : List ℕ)
    (key size : ℕ)
    (is : IsNullKey text key size) (block : AreNullLanes bs lanes key size) (some : 0 < block.starts → 0 < size) where
  abbrev byte : ℕ → ℕ
  byte p = get_or bs p 0

  wide : 64 ≤ length bs
  wide = omega (arith, long)

  blank_bit : (i : ℕ) → i < 64 → bit_at block.blanks i ≡ bit (is_space (byte i))
  blank_bit i lt = ap (λ m. bit_at m i) block.blanks_are ∙ bit_of bs wide is_space i lt

  digit_bit : (i : ℕ) → i < 64 → bit_at block.digits i ≡ bit (is_digit (byte i))
  digit_bit i lt = ap (λ m. bit_at m i) block.digits_are ∙ bit_of bs wide is_digit i lt

  positive : (p : ℕ) → bit_at block.starts p ≡ 1 → 0 < size
  positive p on = some (some_bits block.starts p on)

  -- a word that does not begin with a digit begins with the null text
  spelled : (p : ℕ) → p < 64 → bit_at block.starts p ≡ 1 → take size (drop p bs) ≡ text
  spelled p lt on =
      let has = positive p on in
      let within : length (take size (drop p bs)) ≡ size = omega
      (arith, length-take size (drop p bs), length-drop p bs, long, is.few) in
      sym (same_word size text (take size (drop p bs)) is.few (is.long has) within is.bytes low
      (sym (is.spelled has) ∙ (block.nulls p lt on).0))
    where
      low : (k : ℕ) → get_or (take size (drop p bs)) k 0 < 256
      low k = by (ltb k size) refl
        where
          by : (b : Bool) → ltb k size ≡ b → get_or (take size (drop p bs)) k 0 < 256
          by true e =
              let inside : k < size = under k size e in
              omega (arith, get_or-take size (drop p bs) k 0 inside ∙ get_or-drop p bs k 0, fits (p + k))
          by false e =
              let outside : size ≤ k = from k size e in
              omega (
                arith,
                get_or_past (take size (drop p bs)) k 0
                    (omega (arith, length-take size (drop p bs), outside)),
              )

  -- its bytes are not blanks
  inside : (p : ℕ) → p < 64 → bit_at block.starts p ≡ 1 → (j : ℕ) → j < size → is_space (byte (p + j)) ≡ false
  inside p lt on j less =
      let has = positive p on in
      let within : size ≤ length (drop p bs) = omega (arith, length-drop p bs, long, is.few) in
      let all : list_all is_word_byte (take size (drop p bs)) ≡ true = ap (list_all is_word_byte) (spelled p lt on)
      ∙ is.word has in
      ap is_space (sym (get_or-drop p bs j 0))
      ∙ word_no_space (get_or (drop p bs) j 0) (one_from is_word_byte size (drop p bs) within all j less)

  module _ (at n : ℕ) (last : at + 1 + n + 1 < 64) (before : is_space (byte at) ≡ true)
      (word : (i : ℕ) → i < n + 1 → is_space (byte (at + 1 + i)) ≡ false)
      (after : is_space (byte (at + 1 + n + 1)) ≡ true) where
    not_blank : (i : ℕ) → i < n + 1 → bit_at block.blanks (at + 1 + i) ≡ 0
    not_blank i lt = blank_bit (at + 1 + i) (omega arith) ∙ ap bit (word i lt)

    null_word : is_digit (byte (at + 1)) ≡ false → IsNullWord bs lanes text at n
    null_word other =
        let start = block.starts_are.each at (omega arith) (blank_bit at (omega arith) ∙ ap bit before) first
        (digit_bit (at + 1) (omega arith) ∙ ap bit other) in
        let has = positive (at + 1) start in
        let whole : n + 1 ≡ size = by start (leb size n) refl (leb size (n + 1)) refl in
        let place : at + 1 + (size - 1) ≡ at + 1 + n = omega arith in (
          ap (λ m. take m (drop (at + 1) bs)) whole ∙ spelled (at + 1) (omega arith) start,
          ap (λ p. get_or lanes p 0) (sym place) ∙ (block.nulls (at + 1) (omega arith) start).1,
        )
      where
        first : bit_at block.blanks (at + 1) ≡ 0
        first = let same : at + 1 + 0 ≡ at + 1 = omega arith in rw same at (not_blank 0 (omega arith))

        by : bit_at block.starts (at + 1) ≡ 1 → (b : Bool) → leb size n ≡ b → (t : Bool) → leb size (n + 1) ≡ t
            → n + 1 ≡ size
        by start true e t f =
            let less : size ≤ n = up_to size n e in
            let blank = block.short.behind (at + 1 + size) (omega arith)
            (block.marked_each (at + 1) (omega arith) ∙ start) in
            absurd (omega (arith, blank, not_blank size (omega arith)))
        by start false e true f =
            let more : n < size = above n size e in
            let less : size ≤ n + 1 = up_to size (n + 1) f in
            omega arith
        by start false e false f =
            let more : n + 1 < size = above (n + 1) size f in
            let next : at + 1 + (n + 1) ≡ at + 1 + n + 1 = omega arith in
            let blank = ap (λ p. is_space (byte p)) next ∙ after in
            absurd (unlike (is_space (byte (at + 1 + (n + 1)))) blank
            (inside (at + 1) (omega arith) start (n + 1) more))

    -- no null word ends where a number does
    no_null : is_digit (byte (at + 1)) ≡ true → (p : ℕ) → p < 64 → bit_at block.starts p ≡ 1
        → p + size ≡ at + 1 + n + 1 → ⊥
    no_null digit p lt start ends = by (leb p at) refl (leb p (at + 1)) refl
      where
        by : (b : Bool) → leb p at ≡ b → (t : Bool) → leb p (at + 1) ≡ t → ⊥
        by true e t f =
            let less : p ≤ at = up_to p at e in
            let place : p + (at - p) ≡ at = omega arith in
            let no = inside p lt start (at - p) (omega arith) in
            unlike (is_space (byte at)) before (ap (λ q. is_space (byte q)) (sym place) ∙ no)
        by false e true f =
            let more : at < p = above at p e in
            let less : p ≤ at + 1 = up_to p (at + 1) f in
            let place : p ≡ at + 1 = omega arith in
            let none = block.starts_are.only at (omega arith) (ap (bit_at block.starts) (sym place) ∙ start) in
            omega (arith, none.1.1, digit_bit (at + 1) (omega arith) ∙ ap bit digit)
        by false e false f =
            let more : at + 1 < p = above (at + 1) p f in
            let has = positive p start in
            let i = p - 1 - (at + 1) in
            let place : at + 1 + i ≡ p - 1 = omega arith in
            let next : p - 1 + 1 ≡ p = omega arith in
            let blank = (block.starts_are.only (p - 1) (omega arith) (ap (bit_at block.starts) next ∙ start)).0 in
            omega (arith, blank, sym (ap (bit_at block.blanks) place) ∙ not_blank i (omega arith))

    number_word : is_digit (byte (at + 1)) ≡ true → IsNumberWord bs lanes at n
    number_word digit =
        let few : n < 3 = small (leb n 2) refl in
        let same = word_of_block bs (at + 1) (n + 1) (omega arith) in
        let within : n + 1 ≤ length (drop (at + 1) bs) = omega (arith, length-drop (at + 1) bs, long) in
        let all = all_from is_digit (n + 1) (drop (at + 1) bs) within
        (λ i lt. ap is_digit (get_or-drop (at + 1) bs i 0) ∙ each i lt few) in
        let none : is_digit (get_or (take 64 bs) at 0) ≡ false = ap is_digit (get_or-take 64 bs at 0 (omega arith))
        ∙ space_no_digit (byte at) before in
        let value = block.numbers at n few last two none (ap (list_all is_digit) same ∙ all) (not_blank n (omega arith))
        (blank_bit (at + 1 + n + 1) last ∙ ap bit after) unmarked in
        let lane = block.others (at + 1 + n) (omega arith)
        (λ p lt start is_last. no_null digit p lt start
        (let has = positive p start in omega (arith, is_last, has))) in
        (all, (lane ∙ value.0 ∙ ap value_of_digits same, rw (sym lane) at value.1))
      where
        begins : BeginsNumber block.blanks block.digits at
        begins = record {
          blank = blank_bit at (omega arith)
              ∙ ap bit before;
          digit = digit_bit (at + 1) (omega arith) ∙ ap bit digit;
        }

        second : 0 < n → bit_at block.blanks (at + 2) ≡ 0
        second more = let place : at + 1 + 1 ≡ at + 2 = omega arith in rw place at (not_blank 1 (omega arith))

        third : 1 < n → bit_at block.blanks (at + 3) ≡ 0
        third more = let place : at + 1 + 2 ≡ at + 3 = omega arith in rw place at (not_blank 2 (omega arith))

        small : (b : Bool) → leb n 2 ≡ b → n < 3
        small true e = let le : n ≤ 2 = up_to n 2 e in omega arith
        small false e =
            let more : 2 < n = above 2 n e in
            let place : at + 1 + 3 ≡ at + 4 = omega arith in
            let blank = block.short.few at (omega arith) begins (second (omega arith)) (third (omega arith)) in
            absurd (omega (arith, blank, rw place at (not_blank 3 (omega arith))))

        each : (i : ℕ) → i < n + 1 → n < 3 → is_digit (byte (at + 1 + i)) ≡ true
        each zero lt few = let place : at + 1 + 0 ≡ at + 1 = omega arith in ap (λ p. is_digit (byte p)) place ∙ digit
        each (suc zero) lt few =
            let place : at + 1 + 1 ≡ at + 2 = omega arith in
            let set = block.short.second at (omega arith) begins (second (omega arith)) in
            ap (λ p. is_digit (byte p)) place
            ∙ on (is_digit (byte (at + 2))) (sym (digit_bit (at + 2) (omega arith)) ∙ set)
        each (suc (suc zero)) lt few =
            let place : at + 1 + 2 ≡ at + 3 = omega arith in
            let set = block.short.third at (omega arith) begins (second (omega arith)) (third (omega arith)) in
            ap (λ p. is_digit (byte p)) place
            ∙ on (is_digit (byte (at + 3))) (sym (digit_bit (at + 3) (omega arith)) ∙ set)
        each (suc (suc (suc i))) lt few = absurd (omega arith)

        two : block.has_three ≡ false → n < 2
        two none = by (leb n 1) refl
          where
            by : (b : Bool) → leb n 1 ≡ b → n < 2
            by true e = let le : n ≤ 1 = up_to n 1 e in omega arith
            by false e =
                let more : 1 < n = above 1 n e in
                let blank = block.two none at (omega arith) begins (second (omega arith)) in
                absurd (omega (arith, blank, third more))

        unmarked : bit_at block.marked (at + 1 + n + 1) ≡ 0
        unmarked = by (bit_at block.marked (at + 1 + n + 1)) refl (bit_at-lt block.marked (at + 1 + n + 1))
            (ltb (at + 1 + n + 1) size) refl
          where
            by : (v : ℕ) → bit_at block.marked (at + 1 + n + 1) ≡ v → v < 2 → (b : Bool)
                → ltb (at + 1 + n + 1) size ≡ b → bit_at block.marked (at + 1 + n + 1) ≡ 0
            by zero e lt b f = e
            by (suc v) e lt true f =
                let less : at + 1 + n + 1 < size = under (at + 1 + n + 1) size f in
                block.marked_low (at + 1 + n + 1) less
            by (suc v) e lt false f =
                let more : size ≤ at + 1 + n + 1 = from (at + 1 + n + 1) size f in
                let p = at + 1 + n + 1 - size in
                let place : p + size ≡ at + 1 + n + 1 = omega arith in
                let one : bit_at block.marked (at + 1 + n + 1) ≡ 1 = omega arith in
                let start : bit_at block.starts p ≡ 1 = sym (block.marked_each p (omega arith))
                ∙ ap (bit_at block.marked) place ∙ one in
                absurd (no_null digit p (omega arith) start place)

    pub word_is : IsNullWord bs lanes text at n ⊎ IsNumberWord bs lanes at n
    word_is = by (is_digit (byte (at + 1))) refl
      where
        by : (b : Bool) → is_digit (byte (at + 1)) ≡ b → IsNullWord bs lanes text at n ⊎ IsNumberWord bs lanes at n
        by true e = inr (number_word e)
        by false e = inl (null_word e)
