-- Words of digits: their bits, their lanes and their values.
use Rattle.std.proofs.Common.{◌≡◌, ℕ, zero, suc, ◌+◌, ◌-◌, ◌*◌, ◌/◌, ◌%◌, ◌^◌, ◌<◌, ◌≤◌, ltb, leb, Bool, true, false, T}
use Rattle.std.proofs.Common.{min, max, List, [], ◌∷◌, ◌++◌, length, take, drop, get_or, replicate, refl, sym, ap, ap₂}
use Rattle.std.proofs.Common.{◌∙◌, arith, w8, w64, length-take}
use Rattle.std.specs.Prelude.{◌&&◌, ◌||◌, ◌==◌}
use Rattle.std.specs.Int.{bit_at}
use Rattle.std.specs.Int.Bits.{bit_and}
use Rattle.std.specs.List.{list_all}
use Rattle.std.proofs.lemmas.Bool.{eqb-true}
use Rattle.std.proofs.lemmas.Bool.Decides.{nat_tests}
use Rattle.std.proofs.lemmas.List.{drop_more, get_or-take, take-append-le, get_or-append-add}
use Rattle.std.proofs.lemmas.Nat.{and_mask}
use Rattle.std.proofs.lemmas.Nat.Bits.{bit_at-suc, bit_at-zero, bit_at-lt, bit_at_and, bit_at_or, bit_at_not}
use Rattle.std.proofs.lemmas.Simd.{SwzOk, SwzOk-from_Each1, swz_l, get_or-zip2, get_or-replicate, get_or_wider}
use Rattle.std.proofs.lemmas.Simd.{get_or_narrower, length-zip2, length-replicate, Each1-from_get_or, Each1-get_or}
use Rattle.cell_core_values.specs.Digits.{is_digit, value_of_digits}
use Rattle.cell_ascii_lanes.specs.NumberLanes.{AreNumbersUpToSevenDigits}
use Rattle.cell_ascii_lanes.proofs.ByteBitLemmas.{bit_below, shl_one, shl_two}
use lib.Bits.{bit_or}
use lib.Lanes.{Each1, zip2, number_l, digits_l, pick_l}
use mir.Val.{zeroes}

-- ---- bits

shl_four : (n i : ℕ) → i + 4 < 64 → bit_at (n * 16 % 2 ^ 64) (i + 4) ≡ bit_at n i
shl_four n i lt =
    let next : i + 4 ≡ suc (suc (suc (suc i))) = omega arith in
    let part : n * 16 / 2 / 2 / 2 / 2 ≡ n = omega arith in
    bit_below (n * 16) (i + 4) lt ∙ ap (bit_at (n * 16)) next ∙ bit_at-suc (n * 16) (suc (suc (suc i)))
    ∙ bit_at-suc (n * 16 / 2) (suc (suc i))
    ∙ bit_at-suc (n * 16 / 2 / 2) (suc i) ∙ bit_at-suc (n * 16 / 2 / 2 / 2) i ∙ ap (λ m. bit_at m i) part

module _ (blanks digits : ℕ) (B : blanks < 2 ^ 64) (D : digits < 2 ^ 64) where
  abbrev words : ℕ
  words = 18446744073709551615 - blanks

  abbrev other : ℕ
  other = bit_and words (18446744073709551615 - digits)

  abbrev double : ℕ
  double = bit_and blanks (blanks * 2 % 18446744073709551616)

  abbrev two : ℕ
  two = bit_and words (words * 2 % 18446744073709551616)

  abbrev four : ℕ
  four = bit_and two (two * 4 % 18446744073709551616)

  abbrev eight : ℕ
  eight = bit_and four (four * 16 % 18446744073709551616)

  abbrev all : ℕ
  all = bit_or (bit_or (bit_or other double) eight) (bit_and words 1)

  record NoBit (i : ℕ) : Type 0 where
    other : bit_at other i ≡ 0
    double : bit_at double i ≡ 0
    eight : bit_at eight i ≡ 0
    one : bit_at (bit_and words 1) i ≡ 0

  none : all ≡ 0 → (i : ℕ) → NoBit i
  none e i =
      let sum : max (max (max (bit_at other i) (bit_at double i)) (bit_at eight i)) (bit_at (bit_and words 1) i) ≡ 0 =
      ap (λ m. max m (bit_at (bit_and words 1) i)) (ap (λ m. max m (bit_at eight i)) (sym (bit_at_or other double i))
      ∙ sym (bit_at_or (bit_or other double) eight i))
      ∙ sym (bit_at_or (bit_or (bit_or other double) eight) (bit_and words 1) i) ∙ ap (λ m. bit_at m i) e
      ∙ bit_at-zero i in
      record {
        other = omega (arith, sum);
        double = omega (arith, sum);
        eight = omega (arith, sum);
        one =
            omega (arith, sum);
      }

  word_at : (i : ℕ) → i < 64 → bit_at words i ≡ 1 - bit_at blanks i
  word_at i lt = bit_at_not w64 blanks i B lt

  two_at : (i : ℕ) → i + 1 < 64 → bit_at two (i + 1) ≡ min (bit_at words (i + 1)) (bit_at words i)
  two_at i lt = bit_at_and words (words * 2 % 2 ^ 64) (i + 1) ∙ ap (min (bit_at words (i + 1))) (shl_one words i lt)

  four_at : (i : ℕ) → i + 2 < 64 → bit_at four (i + 2) ≡ min (bit_at two (i + 2)) (bit_at two i)
  four_at i lt = bit_at_and two (two * 4 % 2 ^ 64) (i + 2) ∙ ap (min (bit_at two (i + 2))) (shl_two two i lt)

  eight_at : (i : ℕ) → i + 4 < 64 → bit_at eight (i + 4) ≡ min (bit_at four (i + 4)) (bit_at four i)
  eight_at i lt = bit_at_and four (four * 16 % 2 ^ 64) (i + 4) ∙ ap (min (bit_at four (i + 4))) (shl_four four i lt)

  -- the bits of two words, at places counted from the first of eight
  record Eight (i : ℕ) : Type 0 where
    two1 : bit_at two (i + 1) ≡ min (bit_at words (i + 1)) (bit_at words (i + 0))
    two3 : bit_at two (i + 3) ≡ min (bit_at words (i + 3)) (bit_at words (i + 2))
    two5 : bit_at two (i + 5) ≡ min (bit_at words (i + 5)) (bit_at words (i + 4))
    two7 : bit_at two (i + 7) ≡ min (bit_at words (i + 7)) (bit_at words (i + 6))
    four3 : bit_at four (i + 3) ≡ min (bit_at two (i + 3)) (bit_at two (i + 1))
    four7 : bit_at four (i + 7) ≡ min (bit_at two (i + 7)) (bit_at two (i + 5))
    eight7 : bit_at eight (i + 7) ≡ min (bit_at four (i + 7)) (bit_at four (i + 3))

  eights : (i : ℕ) → i + 7 < 64 → Eight i
  eights i lt =
      let e1 : i + 0 + 1 ≡ i + 1 = omega arith in
      let e3 : i + 2 + 1 ≡ i + 3 = omega arith in
      let e5 : i + 4 + 1 ≡ i + 5 = omega arith in
      let e7 : i + 6 + 1 ≡ i + 7 = omega arith in
      let f3 : i + 1 + 2 ≡ i + 3 = omega arith in
      let f7 : i + 5 + 2 ≡ i + 7 = omega arith in
      let g7 : i + 3 + 4 ≡ i + 7 = omega arith in
      record {
        two1 = rw e1 at (two_at (i + 0) (omega arith));
        two3 = rw e3 at (two_at (i + 2) (omega arith));
        two5 = rw e5 at (two_at (i + 4) (omega arith));
        two7 = rw e7 at (two_at (i + 6) (omega arith));
        four3 = rw f3 at (four_at (i + 1) (omega arith));
        four7 = rw f7 at (four_at (i + 5) (omega arith));
        eight7 = rw g7 at (eight_at (i + 3) (omega arith));
      }

  pub numbers : (all == 0) ≡ true → AreNumbersUpToSevenDigits blanks digits
  numbers is =
      let e : all ≡ 0 = eqb-true _ 0 is in
      record {
        first =
            let o = bit_at_and words 1 0 in
            let low : bit_at 1 0 ≡ 1 = refl in
            let n = none e 0 in
            omega (arith, n.one, o, low, word_at 0 (omega arith), bit_at-lt blanks 0);
        known = λ i lt blank.
            let o = bit_at_and words (18446744073709551615 - digits) i in
            let m : bit_at (18446744073709551615 - digits) i ≡ 1 - bit_at digits i = bit_at_not w64 digits i D lt in
            let n = none e i in
            omega (arith, n.other, o, m, word_at i lt, blank, bit_at-lt digits i);
        apart = λ i lt blank.
            let o = bit_at_and blanks (blanks * 2 % 18446744073709551616) (i + 1) in
            let m : bit_at (blanks * 2 % 18446744073709551616) (i + 1) ≡ bit_at blanks i = shl_one blanks i lt in
            let n = none e (i + 1) in
            omega (arith, n.double, o, m, blank, bit_at-lt blanks (i + 1));
        few = λ i lt each.
            let n = none e (i + 7) in
            let k = eights i lt in
            let w : (j : ℕ) → j < 7 → bit_at words (i + j) ≡ 1 =
            λ j less. omega (arith, word_at (i + j) (omega arith), each j less) in
            let t1 : bit_at two (i + 1) ≡ 1 = omega (arith, k.two1, w 0 (omega arith), w 1 (omega arith)) in
            let t3 : bit_at two (i + 3) ≡ 1 = omega (arith, k.two3, w 2 (omega arith), w 3 (omega arith)) in
            let t5 : bit_at two (i + 5) ≡ 1 = omega (arith, k.two5, w 4 (omega arith), w 5 (omega arith)) in
            let f3 : bit_at four (i + 3) ≡ 1 = omega (arith, k.four3, t1, t3) in
            omega (
              arith,
              n.eight,
              k.two7,
              k.four7,
              k.eight7,
              f3,
              t5,
              w 6 (omega arith),
              word_at (i + 7) lt,
              bit_at-lt
                  blanks (i + 7),
            );
      }

-- ---- the source positions of a word's bytes

abbrev pub sources : ℕ → List ℕ
sources size = take 16 (drop 0 (take (24 - size) (drop size (128 ∷ 128 ∷ 128 ∷ 128 ∷ 128 ∷ 128 ∷ 128 ∷ 128 ∷ 0 ∷ 1 ∷ 2 ∷
    3 ∷ 4 ∷ 5 ∷ 6 ∷ 7 ∷ 8 ∷ 9 ∷ 10 ∷ 11 ∷ 12 ∷ 13 ∷ 14 ∷ 15 ∷ []))))

abbrev ok : ℕ → Bool
ok j = zeroes 16 w8 j || ltb j 16

abbrev all_ok : List ℕ → Bool
all_ok [] = true
all_ok (j ∷ js) = ok j && all_ok js

both_hold : (a b : Bool) → T (a && b) → T a × T b
both_hold true b h = (tt, h)
both_hold false b h = absurd h

each_ok : (js : List ℕ) → T (all_ok js) → Each1 (λ j. T (ok j)) js
each_ok [] h = tt
each_ok (j ∷ js) h = let parts = both_hold (ok j) (all_ok js) h in (parts.0, each_ok js parts.1)

fit : (js : List ℕ) → length js ≡ 16 → T (all_ok js) → SwzOk w8 16 16 0 js
fit js long h = SwzOk-from_Each1 w8 16 1 16 0 js refl (omega (arith, long)) (each_ok js h)

pub sources_fit : (size : ℕ) → size ≤ 8 → SwzOk w8 16 16 0 (sources size)
sources_fit zero le = fit (sources 0) refl tt
sources_fit (suc zero) le = fit (sources 1) refl tt
sources_fit (suc (suc zero)) le = fit (sources 2) refl tt
sources_fit (suc (suc (suc zero))) le = fit (sources 3) refl tt
sources_fit (suc (suc (suc (suc zero)))) le = fit (sources 4) refl tt
sources_fit (suc (suc (suc (suc (suc zero))))) le = fit (sources 5) refl tt
sources_fit (suc (suc (suc (suc (suc (suc zero)))))) le = fit (sources 6) refl tt
sources_fit (suc (suc (suc (suc (suc (suc (suc zero))))))) le = fit (sources 7) refl tt
sources_fit (suc (suc (suc (suc (suc (suc (suc (suc zero)))))))) le = fit (sources 8) refl tt
sources_fit (suc (suc (suc (suc (suc (suc (suc (suc (suc size))))))))) le = absurd (omega arith)

pub sources_long : (size : ℕ) (bs : List ℕ) → size ≤ 8 → length (swz_l w8 16 bs 0 (sources size)) ≡ 16
sources_long zero bs le = refl
sources_long (suc zero) bs le = refl
sources_long (suc (suc zero)) bs le = refl
sources_long (suc (suc (suc zero))) bs le = refl
sources_long (suc (suc (suc (suc zero)))) bs le = refl
sources_long (suc (suc (suc (suc (suc zero))))) bs le = refl
sources_long (suc (suc (suc (suc (suc (suc zero)))))) bs le = refl
sources_long (suc (suc (suc (suc (suc (suc (suc zero))))))) bs le = refl
sources_long (suc (suc (suc (suc (suc (suc (suc (suc zero)))))))) bs le = refl
sources_long (suc (suc (suc (suc (suc (suc (suc (suc (suc size))))))))) bs le = absurd (omega arith)

module _ (a0 a1 a2 a3 a4 a5 a6 a7 a8 a9 a10 a11 a12 a13 a14 a15 : ℕ) (rest : List ℕ) where
  abbrev bytes : List ℕ
  bytes = a0 ∷ a1 ∷ a2 ∷ a3 ∷ a4 ∷ a5 ∷ a6 ∷ a7 ∷ a8 ∷ a9 ∷ a10 ∷ a11 ∷ a12 ∷ a13 ∷ a14 ∷ a15 ∷ rest

  ended : (size : ℕ) → size ≤ 8 → take 8 (swz_l w8 16 (take 16 bytes) 0 (sources size))
      ≡ replicate (8 - size) 0 ++ take size bytes
  ended zero le = refl
  ended (suc zero) le = refl
  ended (suc (suc zero)) le = refl
  ended (suc (suc (suc zero))) le = refl
  ended (suc (suc (suc (suc zero)))) le = refl
  ended (suc (suc (suc (suc (suc zero))))) le = refl
  ended (suc (suc (suc (suc (suc (suc zero)))))) le = refl
  ended (suc (suc (suc (suc (suc (suc (suc zero))))))) le = refl
  ended (suc (suc (suc (suc (suc (suc (suc (suc zero)))))))) le = refl
  ended (suc (suc (suc (suc (suc (suc (suc (suc (suc size))))))))) le = absurd (omega arith)

-- shuffling moves a word of `size` bytes to the end of eight bytes, after zeros
pub ended_word : (size : ℕ) (bs : List ℕ) → size ≤ 8 → 16 ≤ length bs
    → take 8 (swz_l w8 16 (take 16 bs) 0 (sources size)) ≡ replicate (8 - size) 0 ++ take size bs
ended_word size [] le held = absurd (omega arith)
ended_word size (a0 ∷ []) le held = absurd (omega arith)
ended_word size (a0 ∷ a1 ∷ []) le held = absurd (omega arith)
ended_word size (a0 ∷ a1 ∷ a2 ∷ []) le held = absurd (omega arith)
ended_word size (a0 ∷ a1 ∷ a2 ∷ a3 ∷ []) le held = absurd (omega arith)
ended_word size (a0 ∷ a1 ∷ a2 ∷ a3 ∷ a4 ∷ []) le held = absurd (omega arith)
ended_word size (a0 ∷ a1 ∷ a2 ∷ a3 ∷ a4 ∷ a5 ∷ []) le held = absurd (omega arith)
ended_word size (a0 ∷ a1 ∷ a2 ∷ a3 ∷ a4 ∷ a5 ∷ a6 ∷ []) le held = absurd (omega arith)
ended_word size (a0 ∷ a1 ∷ a2 ∷ a3 ∷ a4 ∷ a5 ∷ a6 ∷ a7 ∷ []) le held = absurd (omega arith)
ended_word size (a0 ∷ a1 ∷ a2 ∷ a3 ∷ a4 ∷ a5 ∷ a6 ∷ a7 ∷ a8 ∷ []) le held = absurd (omega arith)
ended_word size (a0 ∷ a1 ∷ a2 ∷ a3 ∷ a4 ∷ a5 ∷ a6 ∷ a7 ∷ a8 ∷ a9 ∷ []) le held = absurd (omega arith)
ended_word size (a0 ∷ a1 ∷ a2 ∷ a3 ∷ a4 ∷ a5 ∷ a6 ∷ a7 ∷ a8 ∷ a9 ∷ a10 ∷ []) le held = absurd (omega arith)
ended_word size (a0 ∷ a1 ∷ a2 ∷ a3 ∷ a4 ∷ a5 ∷ a6 ∷ a7 ∷ a8 ∷ a9 ∷ a10 ∷ a11 ∷ []) le held = absurd (omega arith)
ended_word size (a0 ∷ a1 ∷ a2 ∷ a3 ∷ a4 ∷ a5 ∷ a6 ∷ a7 ∷ a8 ∷ a9 ∷ a10 ∷ a11 ∷ a12 ∷ []) le held = absurd (omega arith)
ended_word size (a0 ∷ a1 ∷ a2 ∷ a3 ∷ a4 ∷ a5 ∷ a6 ∷ a7 ∷ a8 ∷ a9 ∷ a10 ∷ a11 ∷ a12 ∷ a13 ∷ []) le held =
    absurd (omega arith)
ended_word size (a0 ∷ a1 ∷ a2 ∷ a3 ∷ a4 ∷ a5 ∷ a6 ∷ a7 ∷ a8 ∷ a9 ∷ a10 ∷ a11 ∷ a12 ∷ a13 ∷ a14 ∷ []) le held =
    absurd (omega arith)
ended_word size (a0 ∷ a1 ∷ a2 ∷ a3 ∷ a4 ∷ a5 ∷ a6 ∷ a7 ∷ a8 ∷ a9 ∷ a10 ∷ a11 ∷ a12 ∷ a13 ∷ a14 ∷ a15 ∷ rest) le held =
    ended a0 a1 a2 a3 a4 a5 a6 a7 a8 a9 a10 a11 a12 a13 a14 a15 rest size le

-- ---- lanes

number_step : (p n i : ℕ) (xs : List ℕ) → i < length xs → number_l p (take (suc n) (drop i xs))
    ≡ get_or xs i 0 + p * number_l p (take n (drop (i + 1) xs))
number_step p n i xs lt = ap (λ l. number_l p (take (suc n) l)) (drop_more xs i 0 lt)

two_bytes : (i : ℕ) (xs : List ℕ) → i + 2 ≤ length xs → number_l 256 (take 2 (drop i xs))
    ≡ get_or xs i 0 + 256 * get_or xs (i + 1) 0
two_bytes i xs le =
    let a = number_step 256 1 i xs (omega arith) in
    let b : number_l 256 (take 1 (drop (i + 1) xs)) ≡ get_or xs (i + 1) 0 + 256 * 0 =
    number_step 256 0 (i + 1) xs (omega arith) in
    omega (arith, a, b)

four_bytes : (i : ℕ) (xs : List ℕ) → i + 4 ≤ length xs
    → number_l 256 (take 4 (drop i xs)) ≡ get_or xs i 0 + 256 * get_or xs (i + 1) 0 + 65536 * get_or xs (i + 2) 0 +
    16777216 * get_or xs (i + 3) 0
four_bytes i xs le =
    let a = number_step 256 3 i xs (omega arith) in
    let b = number_step 256 2 (i + 1) xs (omega arith) in
    let c = two_bytes (i + 2) xs (omega arith) in
    let second : i + 1 + 1 ≡ i + 2 = omega arith in
    let third : i + 2 + 1 ≡ i + 3 = omega arith in
    let b2 = rw second at b in
    let c2 = rw third at c in
    omega (arith, a, b2, c2)

eight_bytes : (i : ℕ) (xs : List ℕ) → i + 8 ≤ length xs
    → number_l 256 (take 8 (drop i xs)) ≡ get_or xs i 0 + 256 * get_or xs (i + 1) 0 + 65536 * get_or xs (i + 2) 0 +
    16777216 * get_or xs (i + 3) 0
    + 4294967296 * (get_or xs (i + 4) 0 + 256 * get_or xs (i + 5) 0 + 65536 * get_or xs (i + 6) 0 + 16777216 * get_or xs
    (i + 7) 0)
eight_bytes i xs le =
    let a = number_step 256 7 i xs (omega arith) in
    let b = rw (e2 i) at (number_step 256 6 (i + 1) xs (omega arith)) in
    let c = rw (e3 i) at (number_step 256 5 (i + 2) xs (omega arith)) in
    let d = rw (e4 i) at (number_step 256 4 (i + 3) xs (omega arith)) in
    let f = rw (e5 i, e6 i, e7 i) at (four_bytes (i + 4) xs (omega arith)) in
    omega (arith, a, b, c, d, f)
  where
    e2 : (i : ℕ) → i + 1 + 1 ≡ i + 2
    e2 i = omega arith

    e3 : (i : ℕ) → i + 2 + 1 ≡ i + 3
    e3 i = omega arith

    e4 : (i : ℕ) → i + 3 + 1 ≡ i + 4
    e4 i = omega arith

    e5 : (i : ℕ) → i + 4 + 1 ≡ i + 5
    e5 i = omega arith

    e6 : (i : ℕ) → i + 4 + 2 ≡ i + 6
    e6 i = omega arith

    e7 : (i : ℕ) → i + 4 + 3 ≡ i + 7
    e7 i = omega arith

-- multiplying each lane and shifting it right gives the upper bits of each product
moved_at : (p f s n : ℕ) (xs : List ℕ) → length xs ≡ n → (j : ℕ) → j < n
    → get_or (zip2 (λ a b. a / 2 ^ b) (zip2 (λ a b. a * b % p) xs (replicate n f)) (replicate n s)) j 0
    ≡ get_or xs j 0 * f % p / 2 ^ s
moved_at p f s n xs long j lt =
    let times : ℕ → ℕ → ℕ = λ a b. a * b % p in
    let ys = zip2 times xs (replicate n f) in
    let same : length xs ≡ length (replicate n f) = long ∙ sym (length-replicate n f) in
    let wide : length ys ≡ n = length-zip2 times xs (replicate n f) same ∙ long in
    let in_ys : j < length ys = rw wide lt in
    let in_xs : j < length xs = rw long lt in
    let in_f : j < length (replicate n f) = rw (length-replicate n f) lt in
    let in_s : j < length (replicate n s) = rw (length-replicate n s) lt in
    get_or-zip2 (λ a b. a / 2 ^ b) ys (replicate n s) j 0 0 0 in_ys in_s
    ∙ ap₂ (λ a b. a / 2 ^ b) (get_or-zip2 times xs (replicate n f) j 0 0 0 in_xs in_f
    ∙ ap (times (get_or xs j 0)) (get_or-replicate n j f 0 lt)) (get_or-replicate n j s 0 lt)

abbrev low : List ℕ → List ℕ
low ds = zip2 bit_and ds (replicate 16 15)

low_at : (ds : List ℕ) → length ds ≡ 16 → (k : ℕ) → k < 16 → get_or (low ds) k 0 ≡ get_or ds k 0 % 16
low_at ds long k lt =
    let inside : k < length ds = omega (arith, long) in
    let there : k < length {A = ℕ} (replicate 16 15) = lt in
    get_or-zip2 bit_and ds (replicate 16 15) k 0 0 0 inside there
    ∙ ap (bit_and (get_or ds k 0)) (get_or-replicate 16 k 15 0 lt) ∙ and_mask (get_or ds k 0) 4

low_long : (ds : List ℕ) → length ds ≡ 16 → length (low ds) ≡ 16
low_long ds long = length-zip2 bit_and ds (replicate 16 15) long ∙ long

two_of : (a b : ℕ) → a < 10 → b < 10 → (a + 256 * b) * 2561 % 65536 / 2 ^ 8 ≡ 10 * a + b
two_of a b A B = omega arith

-- each lane has the value of two digits
pub twos_at : (ds : List ℕ) → length ds ≡ 16 → ((k : ℕ) → k < 16 → get_or ds k 0 % 16 < 10) → (j : ℕ) → j < 8
    → get_or (zip2 (λ a b. a / 2 ^ b) (zip2 (λ a b. a * b % 65536) (digits_l 65536 8 (number_l 256 (low ds)))
    (replicate 8 2561)) (replicate 8 8)) j 0
    ≡ 10 * (get_or ds (2 * j) 0 % 16) + get_or ds (2 * j + 1) 0 % 16
twos_at ds long few j lt =
    let wide = digits_l 65536 8 (number_l 256 (low ds)) in
    let below : Each1 (λ x. x < 256) (low ds) =
    Each1-from_get_or (λ x. x < 256) (low ds) 0 (λ k inside. let less : k < 16 =
    rw (low_long ds long) at inside in omega (arith, low_at ds long k less)) in
    let a = low_at ds long (2 * j) (omega arith) in
    let b = low_at ds long (2 * j + 1) (omega arith) in
    let lane : get_or wide j 0 ≡ get_or ds (2 * j) 0 % 16 + 256 * (get_or ds (2 * j + 1) 0 % 16) =
    get_or_wider 256 2 65536 8 (low ds) j refl below lt ∙ two_bytes (2 * j) (low ds) (omega (arith, low_long ds long))
    ∙ ap₂ (λ x y. x + 256 * y) a b in
    moved_at 65536 2561 8 8 wide refl j lt ∙ ap (λ x. x * 2561 % 65536 / 2 ^ 8) lane
    ∙ two_of (get_or ds (2 * j) 0 % 16) (get_or ds (2 * j + 1) 0 % 16) (few (2 * j) (omega arith))
    (few (2 * j + 1) (omega arith))

bytes_below : (n x : ℕ) → Each1 (λ b. b < 256) (digits_l 256 n x)
bytes_below zero x = tt
bytes_below (suc n) x = (omega arith, bytes_below n (x / 256))

four_of : (a b : ℕ) → a < 100 → b < 100 → (a + 65536 * b) * 6553601 % 4294967296 / 2 ^ 16 ≡ 100 * a + b
four_of a b A B = omega arith

-- each lane has the value of four digits
pub fours_at : (ts : List ℕ) → length ts ≡ 8 → ((k : ℕ) → k < 8 → get_or ts k 0 < 100) → (j : ℕ) → j < 4
    → get_or (zip2 (λ a b. a / 2 ^ b) (zip2 (λ a b. a * b % 4294967296)
    (digits_l 4294967296 4 (number_l 256 (digits_l 256 16 (number_l 65536 ts)))) (replicate 4 6553601))
    (replicate 4 16)) j 0
    ≡ 100 * get_or ts (2 * j) 0 + get_or ts (2 * j + 1) 0
fours_at ts long few j lt =
    let bs = digits_l 256 16 (number_l 65536 ts) in
    let wide = digits_l 4294967296 4 (number_l 256 bs) in
    let t0 = get_or ts (2 * j) 0 in
    let t1 = get_or ts (2 * j + 1) 0 in
    let h0 : t0 < 100 = few (2 * j) (omega arith) in
    let h1 : t1 < 100 = few (2 * j + 1) (omega arith) in
    let below : Each1 (λ x. x < 65536) ts =
    Each1-from_get_or (λ x. x < 65536) ts 0 (λ k inside. let less : k < 8 =
    rw long at inside in omega (arith, few k less)) in
    let at : (k i : ℕ) → i < 2 → 2 * k + i < 16 → get_or bs (2 * k + i) 0 ≡ get_or ts k 0 / 256 ^ i % 256 =
    λ k i lt inside. get_or_narrower 65536 2 256 16 ts k i refl below lt inside in
    let i0 : 2 * (2 * j) + 0 ≡ 4 * j = omega arith in
    let i1 : 2 * (2 * j) + 1 ≡ 4 * j + 1 = omega arith in
    let i2 : 2 * (2 * j + 1) + 0 ≡ 4 * j + 2 = omega arith in
    let i3 : 2 * (2 * j + 1) + 1 ≡ 4 * j + 3 = omega arith in
    let b0 : get_or bs (4 * j) 0 ≡ t0 / 1 % 256 = rw i0 at (at (2 * j) 0 (omega arith) (omega arith)) in
    let b1 : get_or bs (4 * j + 1) 0 ≡ t0 / 256 % 256 = rw i1 at (at (2 * j) 1 (omega arith) (omega arith)) in
    let b2 : get_or bs (4 * j + 2) 0 ≡ t1 / 1 % 256 = rw i2 at (at (2 * j + 1) 0 (omega arith) (omega arith)) in
    let b3 : get_or bs (4 * j + 3) 0 ≡ t1 / 256 % 256 = rw i3 at (at (2 * j + 1) 1 (omega arith) (omega arith)) in
    let room : 4 * j + 4 ≤ length bs = let all : 4 * j + 4 ≤ 16 = omega arith in all in
    let sum = four_bytes (4 * j) bs room in
    let lane : get_or wide j 0 ≡ t0 + 65536 * t1 =
    get_or_wider 256 4 4294967296 4 bs j refl (bytes_below 16 (number_l 65536 ts)) lt
    ∙ omega (arith, sum, b0, b1, b2, b3, h0, h1) in
    moved_at 4294967296 6553601 16 4 wide refl j lt ∙ ap (λ x. x * 6553601 % 4294967296 / 2 ^ 16) lane
    ∙ four_of t0 t1 h0 h1

eight_of : (a b x : ℕ) → a < 10000 → b < 10000 → x ≡ a + 4294967296 * b
    → (bit_and x 4294967295 * 10000 % 18446744073709551616 + x / 2 ^ 32) % 18446744073709551616 ≡ 10000 * a + b
eight_of a b x A B is =
    let low : bit_and x 4294967295 ≡ x % 4294967296 = and_mask x 32 in
    let part : x % 4294967296 ≡ a = omega arith in
    let upper : x / 2 ^ 32 ≡ b = omega arith in
    rw (low, part, upper) (omega arith)

module _ (fs : List ℕ) (long : length fs ≡ 4) (few : (k : ℕ) → k < 4 → get_or fs k 0 < 10000) where
  abbrev bs : List ℕ
  bs = digits_l 256 16 (number_l 4294967296 fs)

  abbrev wide : List ℕ
  wide = digits_l 18446744073709551616 2 (number_l 256 bs)

  below : Each1 (λ x. x < 4294967296) fs
  below = Each1-from_get_or (λ x. x < 4294967296) fs 0 (λ k inside. let less : k < 4 =
      rw long at inside in omega (arith, few k less))

  at : (k i : ℕ) → i < 4 → 4 * k + i < 16 → get_or bs (4 * k + i) 0 ≡ get_or fs k 0 / 256 ^ i % 256
  at k i lt inside = get_or_narrower 4294967296 4 256 16 fs k i refl below lt inside

  bytes_of : (x : ℕ) → x < 10000 → x / 1 % 256 + 256 * (x / 256 % 256) + 65536 * (x / 65536 % 256) + 16777216 *
      (x / 16777216 % 256) ≡ x
  bytes_of x lt = omega arith

  lane : (j : ℕ) → j < 2 → get_or wide j 0 ≡ get_or fs (2 * j) 0 + 4294967296 * get_or fs (2 * j + 1) 0
  lane j lt =
      let f0 = get_or fs (2 * j) 0 in
      let f1 = get_or fs (2 * j + 1) 0 in
      let i0 : 4 * (2 * j) + 0 ≡ 8 * j = omega arith in
      let i1 : 4 * (2 * j) + 1 ≡ 8 * j + 1 = omega arith in
      let i2 : 4 * (2 * j) + 2 ≡ 8 * j + 2 = omega arith in
      let i3 : 4 * (2 * j) + 3 ≡ 8 * j + 3 = omega arith in
      let i4 : 4 * (2 * j + 1) + 0 ≡ 8 * j + 4 = omega arith in
      let i5 : 4 * (2 * j + 1) + 1 ≡ 8 * j + 5 = omega arith in
      let i6 : 4 * (2 * j + 1) + 2 ≡ 8 * j + 6 = omega arith in
      let i7 : 4 * (2 * j + 1) + 3 ≡ 8 * j + 7 = omega arith in
      let b0 : get_or bs (8 * j) 0 ≡ f0 / 1 % 256 = rw i0 at (at (2 * j) 0 (omega arith) (omega arith)) in
      let b1 : get_or bs (8 * j + 1) 0 ≡ f0 / 256 % 256 = rw i1 at (at (2 * j) 1 (omega arith) (omega arith)) in
      let b2 : get_or bs (8 * j + 2) 0 ≡ f0 / 65536 % 256 = rw i2 at (at (2 * j) 2 (omega arith) (omega arith)) in
      let b3 : get_or bs (8 * j + 3) 0 ≡ f0 / 16777216 % 256 = rw i3 at (at (2 * j) 3 (omega arith) (omega arith)) in
      let b4 : get_or bs (8 * j + 4) 0 ≡ f1 / 1 % 256 = rw i4 at (at (2 * j + 1) 0 (omega arith) (omega arith)) in
      let b5 : get_or bs (8 * j + 5) 0 ≡ f1 / 256 % 256 = rw i5 at (at (2 * j + 1) 1 (omega arith) (omega arith)) in
      let b6 : get_or bs (8 * j + 6) 0 ≡ f1 / 65536 % 256 = rw i6 at (at (2 * j + 1) 2 (omega arith) (omega arith)) in
      let b7 : get_or bs (8 * j + 7) 0 ≡ f1 / 16777216 % 256 =
      rw i7 at (at (2 * j + 1) 3 (omega arith) (omega arith)) in
      let room : 8 * j + 8 ≤ length bs = let all : 8 * j + 8 ≤ 16 = omega arith in all in
      let first = bytes_of f0 (few (2 * j) (omega arith)) in
      let second = bytes_of f1 (few (2 * j + 1) (omega arith)) in
      get_or_wider 256 8 18446744073709551616 2 bs j refl (bytes_below 16 (number_l 4294967296 fs)) lt
      ∙ eight_bytes (8 * j) bs room
      ∙ rw (b0, b1, b2, b3, b4, b5, b6, b7, first, second) refl

  -- each lane has the value of eight digits
  pub eights_at : (j : ℕ) → j < 2
      → get_or (zip2 (λ a b. (a + b) % 18446744073709551616) (zip2 (λ a b. a * b % 18446744073709551616)
      (zip2 bit_and wide (replicate 2 4294967295)) (replicate 2 10000))
      (zip2 (λ a b. a / 2 ^ b) wide (replicate 2 32))) j 0
      ≡ 10000 * get_or fs (2 * j) 0 + get_or fs (2 * j + 1) 0
  eights_at zero lt = eight_of (get_or fs 0 0) (get_or fs 1 0) (get_or wide 0 0) (few 0 (omega arith))
      (few 1 (omega arith)) (lane 0 lt)
  eights_at (suc zero) lt = eight_of (get_or fs 2 0) (get_or fs 3 0) (get_or wide 1 0) (few 2 (omega arith))
      (few 3 (omega arith)) (lane 1 lt)
  eights_at (suc (suc j)) lt = absurd (omega arith)

-- ---- words

-- a byte that is read as its low four bits: a digit, or a leading 0
record Counts (x : ℕ) : Type 0 where
  low : x % 16 ≡ x - 48
  few : x - 48 < 10

digit_counts : (x : ℕ) → is_digit x ≡ true → Counts x
digit_counts x e =
    let least : 48 ≤ x = grind (arith, nat_tests) in
    let most : x ≤ 57 = grind (arith, nat_tests) in
    record { low = omega arith; few = omega arith }

digits_count : (xs : List ℕ) → list_all is_digit xs ≡ true → Each1 Counts xs
digits_count [] e = tt
digits_count (x ∷ xs) e = by (is_digit x) refl e (digits_count xs)
  where
    by : (b : Bool) → is_digit x ≡ b → (b && list_all is_digit xs) ≡ true
        → (list_all is_digit xs ≡ true → Each1 Counts xs) → Each1 Counts (x ∷ xs)
    by true d all rest = (digit_counts x d, rest all)
    by false d all rest = cc

zeros_count : (k : ℕ) (xs : List ℕ) → Each1 Counts xs → Each1 Counts (replicate k 0 ++ xs)
zeros_count zero xs each = each
zeros_count (suc k) xs each = (record { low = refl; few = omega arith }, zeros_count k xs each)

pub zeros_value : (k : ℕ) (xs : List ℕ) → value_of_digits (replicate k 0 ++ xs) ≡ value_of_digits xs
zeros_value zero xs = refl
zeros_value (suc k) xs = zeros_value k xs

pub length-zeros : (k : ℕ) (xs : List ℕ) → length (replicate k 0 ++ xs) ≡ k + length xs
length-zeros zero xs = omega arith
length-zeros (suc k) xs = omega (arith, length-zeros k xs)

-- eight bytes, each a digit or a leading 0
record IsWord (xs : List ℕ) : Type 0 where
  size : length xs ≡ 8
  each : Each1 Counts xs

ends_half : (size : ℕ) (bs : List ℕ) → size ≤ 8 → size ≤ length bs → list_all is_digit (take size bs) ≡ true
    → IsWord (replicate (8 - size) 0 ++ take size bs)
ends_half size bs few within digits = record {
  size = omega (arith, length-zeros (8 - size) (take size bs), length-take size bs);
  each = zeros_count (8 - size) (take size bs) (digits_count (take size bs) digits);
}

counts_at : (xs : List ℕ) → IsWord xs → (k : ℕ) → k < 8 → Counts (get_or xs k 0)
counts_at xs is k lt = Each1-get_or Counts xs k 0 (omega (arith, is.size)) is.each

abbrev digit : List ℕ → ℕ → ℕ
digit xs k = get_or xs k 0 % 16

value_from : (xs : List ℕ) → IsWord xs
    → 10000 * (100 * (10 * digit xs 0 + digit xs 1) + (10 * digit xs 2 + digit xs 3)) +
    (100 * (10 * digit xs 4 + digit xs 5) + (10 * digit xs 6 + digit xs 7))
    ≡ value_of_digits xs
value_from xs is = by xs is.size is.each
  where
    by : (xs : List ℕ) → length xs ≡ 8 → Each1 Counts xs
        → 10000 * (100 * (10 * digit xs 0 + digit xs 1) + (10 * digit xs 2 + digit xs 3)) +
        (100 * (10 * digit xs 4 + digit xs 5) + (10 * digit xs 6 + digit xs 7))
        ≡ value_of_digits xs
    by [] e all = absurd (omega arith)
    by (a ∷ []) e all = absurd (omega arith)
    by (a ∷ b ∷ []) e all = absurd (omega arith)
    by (a ∷ b ∷ c ∷ []) e all = absurd (omega arith)
    by (a ∷ b ∷ c ∷ d ∷ []) e all = absurd (omega arith)
    by (a ∷ b ∷ c ∷ d ∷ f ∷ []) e all = absurd (omega arith)
    by (a ∷ b ∷ c ∷ d ∷ f ∷ g ∷ []) e all = absurd (omega arith)
    by (a ∷ b ∷ c ∷ d ∷ f ∷ g ∷ i ∷ []) e all = absurd (omega arith)
    by (a ∷ b ∷ c ∷ d ∷ f ∷ g ∷ i ∷ j ∷ k ∷ xs) e all = absurd (omega arith)
    by (a ∷ b ∷ c ∷ d ∷ f ∷ g ∷ i ∷ j ∷ []) e (A, (B, (C, (D, (F, (G, (I, (J, none)))))))) =
        omega (arith, A.low, B.low, C.low, D.low, F.low, G.low, I.low, J.low)

abbrev pub joined : List ℕ → List ℕ → List ℕ
joined us vs = pick_l 0 (us ++ vs) (0 ∷ 1 ∷ 2 ∷ 3 ∷ 4 ∷ 5 ∷ 6 ∷ 7 ∷ 16 ∷ 17 ∷ 18 ∷ 19 ∷ 20 ∷ 21 ∷ 22 ∷ 23 ∷ [])

left_at : (us vs : List ℕ) → length us ≡ 16 → (k : ℕ) → k < 16 → get_or (us ++ vs) k 0 ≡ get_or us k 0
left_at us vs long k lt =
    let whole : 16 ≤ length us = omega (arith, long) in
    sym (get_or-take 16 (us ++ vs) k 0 lt) ∙ ap (λ l. get_or l k 0) (take-append-le 16 us vs whole)
    ∙ get_or-take 16 us k 0 lt

columns_read_right_at_offset : (us vs : List ℕ) → length us ≡ 16 → (k : ℕ)
    → get_or (us ++ vs) (16 + k) 0 ≡ get_or vs k 0
columns_read_right_at_offset us vs long k = ap (λ n. get_or (us ++ vs) (n + k) 0) (sym long)
    ∙ get_or-append-add us vs k 0

record AreJoined (ws xs ys : List ℕ) : Type 0 where
  left : (k : ℕ) → k < 8 → get_or ws k 0 ≡ get_or xs k 0
  right : (k : ℕ) → k < 8 → get_or ws (8 + k) 0 ≡ get_or ys k 0

are_joined : (us vs xs ys : List ℕ) → length us ≡ 16 → take 8 us ≡ xs → take 8 vs ≡ ys → AreJoined (joined us vs) xs ys
are_joined us vs xs ys long a b = record { left = left; right = right }
  where
    first : (k : ℕ) → k < 8 → get_or (us ++ vs) k 0 ≡ get_or xs k 0
    first k lt = left_at us vs long k (omega arith) ∙ sym (get_or-take 8 us k 0 lt) ∙ ap (λ l. get_or l k 0) a

    second : (k : ℕ) → k < 8 → get_or (us ++ vs) (16 + k) 0 ≡ get_or ys k 0
    second k lt = columns_read_right_at_offset us vs long k ∙ sym (get_or-take 8 vs k 0 lt) ∙ ap (λ l. get_or l k 0) b

    left : (k : ℕ) → k < 8 → get_or (joined us vs) k 0 ≡ get_or xs k 0
    left zero lt = first 0 lt
    left (suc zero) lt = first 1 lt
    left (suc (suc zero)) lt = first 2 lt
    left (suc (suc (suc zero))) lt = first 3 lt
    left (suc (suc (suc (suc zero)))) lt = first 4 lt
    left (suc (suc (suc (suc (suc zero))))) lt = first 5 lt
    left (suc (suc (suc (suc (suc (suc zero)))))) lt = first 6 lt
    left (suc (suc (suc (suc (suc (suc (suc zero))))))) lt = first 7 lt
    left (suc (suc (suc (suc (suc (suc (suc (suc k)))))))) lt = absurd (omega arith)

    right : (k : ℕ) → k < 8 → get_or (joined us vs) (8 + k) 0 ≡ get_or ys k 0
    right zero lt = second 0 lt
    right (suc zero) lt = second 1 lt
    right (suc (suc zero)) lt = second 2 lt
    right (suc (suc (suc zero))) lt = second 3 lt
    right (suc (suc (suc (suc zero)))) lt = second 4 lt
    right (suc (suc (suc (suc (suc zero))))) lt = second 5 lt
    right (suc (suc (suc (suc (suc (suc zero)))))) lt = second 6 lt
    right (suc (suc (suc (suc (suc (suc (suc zero))))))) lt = second 7 lt
    right (suc (suc (suc (suc (suc (suc (suc (suc k)))))))) lt = absurd (omega arith)

-- two words of digits, each at the end of eight of 16 bytes
module _ (us vs p q : List ℕ) (m n : ℕ) (long : length us ≡ 16) (few : (m ≤ 8) × (n ≤ 8))
    (held : (16 ≤ length p) × (16 ≤ length q))
    (digits : (list_all is_digit (take m p) ≡ true) × (list_all is_digit (take n q) ≡ true))
    (a : take 8 us ≡ replicate (8 - m) 0 ++ take m p) (b : take 8 vs ≡ replicate (8 - n) 0 ++ take n q) where
  abbrev xs : List ℕ
  xs = replicate (8 - m) 0 ++ take m p

  abbrev ys : List ℕ
  ys = replicate (8 - n) 0 ++ take n q

  abbrev ws : List ℕ
  ws = joined us vs

  one : IsWord xs
  one = ends_half m p few.0 (omega (arith, few.0, held.0)) digits.0

  other_one : IsWord ys
  other_one = ends_half n q few.1 (omega (arith, few.1, held.1)) digits.1

  are : AreJoined ws xs ys
  are = are_joined us vs xs ys long a b

  pub words_count : (k : ℕ) → k < 16 → get_or ws k 0 % 16 < 10
  words_count k lt = by (leb k 7) refl
    where
      by : (t : Bool) → leb k 7 ≡ t → get_or ws k 0 % 16 < 10
      by true e =
          let less : k < 8 = grind (arith, nat_tests) in
          let c = counts_at xs one k less in
          rw (are.left k less) (omega (arith, c.low, c.few))
      by false e =
          let more : 7 < k = grind (arith, nat_tests) in
          let less : k - 8 < 8 = omega arith in
          let place : 8 + (k - 8) ≡ k = omega arith in
          let c = counts_at ys other_one (k - 8) less in
          let same = rw place at (are.right (k - 8) less) in
          rw same (omega (arith, c.low, c.few))

  module _ (ts fs rs : List ℕ) (two : (j : ℕ) → j < 8 → get_or ts j 0
      ≡ 10 * (get_or ws (2 * j) 0 % 16) + get_or ws (2 * j + 1) 0 % 16)
      (four : (j : ℕ) → j < 4 → get_or fs j 0 ≡ 100 * get_or ts (2 * j) 0 + get_or ts (2 * j + 1) 0)
      (eight : (j : ℕ) → j < 2 → get_or rs j 0 ≡ 10000 * get_or fs (2 * j) 0 + get_or fs (2 * j + 1) 0) where
    pub first_value : get_or rs 0 0 ≡ value_of_digits (take m p)
    first_value =
        let l : (k : ℕ) → k < 8 → get_or ws k 0 % 16 ≡ digit xs k = λ k lt. ap (λ x. x % 16) (are.left k lt) in
        let t0 : get_or ts 0 0 ≡ 10 * digit xs 0 + digit xs 1 = two 0 (omega arith)
        ∙ ap₂ (λ x y. 10 * x + y) (l 0 (omega arith)) (l 1 (omega arith)) in
        let t1 : get_or ts 1 0 ≡ 10 * digit xs 2 + digit xs 3 = two 1 (omega arith)
        ∙ ap₂ (λ x y. 10 * x + y) (l 2 (omega arith)) (l 3 (omega arith)) in
        let t2 : get_or ts 2 0 ≡ 10 * digit xs 4 + digit xs 5 = two 2 (omega arith)
        ∙ ap₂ (λ x y. 10 * x + y) (l 4 (omega arith)) (l 5 (omega arith)) in
        let t3 : get_or ts 3 0 ≡ 10 * digit xs 6 + digit xs 7 = two 3 (omega arith)
        ∙ ap₂ (λ x y. 10 * x + y) (l 6 (omega arith)) (l 7 (omega arith)) in
        let f0 = four 0 (omega arith) ∙ ap₂ (λ x y. 100 * x + y) t0 t1 in
        let f1 = four 1 (omega arith) ∙ ap₂ (λ x y. 100 * x + y) t2 t3 in
        eight 0 (omega arith) ∙ ap₂ (λ x y. 10000 * x + y) f0 f1 ∙ value_from xs one ∙ zeros_value (8 - m) (take m p)

    pub second_value : get_or rs 1 0 ≡ value_of_digits (take n q)
    second_value =
        let l : (k : ℕ) → k < 8 → get_or ws (8 + k) 0 % 16 ≡ digit ys k = λ k lt. ap (λ x. x % 16) (are.right k lt) in
        let t0 : get_or ts 4 0 ≡ 10 * digit ys 0 + digit ys 1 = two 4 (omega arith)
        ∙ ap₂ (λ x y. 10 * x + y) (l 0 (omega arith)) (l 1 (omega arith)) in
        let t1 : get_or ts 5 0 ≡ 10 * digit ys 2 + digit ys 3 = two 5 (omega arith)
        ∙ ap₂ (λ x y. 10 * x + y) (l 2 (omega arith)) (l 3 (omega arith)) in
        let t2 : get_or ts 6 0 ≡ 10 * digit ys 4 + digit ys 5 = two 6 (omega arith)
        ∙ ap₂ (λ x y. 10 * x + y) (l 4 (omega arith)) (l 5 (omega arith)) in
        let t3 : get_or ts 7 0 ≡ 10 * digit ys 6 + digit ys 7 = two 7 (omega arith)
        ∙ ap₂ (λ x y. 10 * x + y) (l 6 (omega arith)) (l 7 (omega arith)) in
        let f0 = four 2 (omega arith) ∙ ap₂ (λ x y. 100 * x + y) t0 t1 in
        let f1 = four 3 (omega arith) ∙ ap₂ (λ x y. 100 * x + y) t2 t3 in
        eight 1 (omega arith) ∙ ap₂ (λ x y. 10000 * x + y) f0 f1 ∙ value_from ys other_one
        ∙ zeros_value (8 - n) (take n q)

pub twos_few : (ws ts : List ℕ) → ((k : ℕ) → k < 16 → get_or ws k 0 % 16 < 10)
    → ((j : ℕ) → j < 8 → get_or ts j 0 ≡ 10 * (get_or ws (2 * j) 0 % 16) + get_or ws (2 * j + 1) 0 % 16) → (k : ℕ)
    → k < 8 → get_or ts k 0 < 100
twos_few ws ts low is k lt = omega (arith, is k lt, low (2 * k) (omega arith), low (2 * k + 1) (omega arith))

pub fours_few : (ts fs : List ℕ) → ((k : ℕ) → k < 8 → get_or ts k 0 < 100)
    → ((j : ℕ) → j < 4 → get_or fs j 0 ≡ 100 * get_or ts (2 * j) 0 + get_or ts (2 * j + 1) 0) → (k : ℕ) → k < 4
    → get_or fs k 0 < 10000
fours_few ts fs low is k lt = omega (arith, is k lt, low (2 * k) (omega arith), low (2 * k + 1) (omega arith))

pub eights_few : (fs rs : List ℕ) → ((k : ℕ) → k < 4 → get_or fs k 0 < 10000)
    → ((j : ℕ) → j < 2 → get_or rs j 0 ≡ 10000 * get_or fs (2 * j) 0 + get_or fs (2 * j + 1) 0) → (k : ℕ) → k < 2
    → get_or rs k 0 < 100000000
eights_few fs rs low is k lt = omega (arith, is k lt, low (2 * k) (omega arith), low (2 * k + 1) (omega arith))
