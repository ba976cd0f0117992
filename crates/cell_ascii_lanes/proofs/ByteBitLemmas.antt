-- The bits of words, digits and stars, and the lanes that the set bits select.
use Rattle.std.proofs.Common.{◌≡◌, ℕ, zero, suc, ◌+◌, ◌-◌, ◌*◌, ◌/◌, ◌%◌, ◌^◌, ◌<◌, ◌≤◌, ltb, leb, eqb, cond, Bool, true, false, T, min, max, List, [], ◌∷◌, ◌++◌, map, length, take, drop, get_or, refl, sym, ap, ap₂, ◌∙◌, arith, w8, w64, length-take, length-drop}
use Rattle.std.specs.Prelude.{◌&&◌, ◌==◌, if◌then◌else◌}
use Rattle.std.specs.Int.{bit_at}
use Rattle.std.specs.Int.RustNames.{count_ones}
use Rattle.std.proofs.lemmas.Simd.{mask_l-mod, swz_l, SwzOk, SwzOk-from_below, length-swz_l, ones-mask_l, ones-mask_l_cons, take_more_put_chunk}
use Rattle.std.proofs.lemmas.List.{take-map, take-take, drop_more}
use Rattle.std.proofs.lemmas.Nat.{or_lt, and_mask, ones-le, one_shl, mod-pow-add}
use Rattle.std.proofs.lemmas.Nat.Bits.{bit_at-suc, bit_at-zero, bit_at-lt, bit_at_and, bit_at_or, bit_at_not, bit_at_cat_low}
use Rattle.std.proofs.lemmas.Bool.{eqb-true, lt-leb}
use Rattle.std.proofs.lemmas.Bool.Decides.{nat_tests}
use Rattle.cell_ascii_lanes.specs.WordLanes.{AreStarsOrThreeDigitNumbers, flagged_items}
use Rattle.cell_ascii_lanes.proofs.ByteLaneLemmas.{upto, upto_sound}
use Rattle.std.proofs.Math.Nat.{div-div-eq-div-mul, pow-suc}
use lib.Bits.{bit_or, bit_and}
use lib.Lanes.{Each1, mask_l, all_below, put_chunk}

-- ---- bits of a mask

abbrev pub bit : Bool → ℕ
bit b = cond b 1 0

pub turned : (a : Bool) (m : ℕ) → bit a + 2 * m ≡ m * 2 ^ 1 + bit a
turned a m = omega arith

-- the lowest k bits of a mask are the mask of the first k lanes
pub mask-take : (k : ℕ) (ms : List Bool) → mask_l ms % 2 ^ k ≡ mask_l (take k ms)
mask-take zero ms = omega arith
mask-take (suc k) [] = mask_l-mod [] (suc k) (omega arith)
mask-take (suc k) (m ∷ ms) =
    let n = bit m + 2 * mask_l ms in
    let next : suc k ≡ k + 1 = omega arith in
    let lowest : n % 2 ^ 1 ≡ bit m = by_bit m in
    let higher : n / 2 ^ 1 ≡ mask_l ms = by_half m in
    ap (λ (j : ℕ). n % 2 ^ j) next ∙ mod-pow-add n k 1 ∙ ap₂ (λ (a : ℕ) (b : ℕ). a % 2 ^ k * 2 ^ 1 + b) higher lowest
    ∙ ap (λ (a : ℕ). a * 2 ^ 1 + bit m) (mask-take k ms) ∙ sym (turned m (mask_l (take k ms)))
  where
    by_bit : (b : Bool) → (bit b + 2 * mask_l ms) % 2 ^ 1 ≡ bit b
    by_bit true = omega arith
    by_bit false = omega arith

    by_half : (b : Bool) → (bit b + 2 * mask_l ms) / 2 ^ 1 ≡ mask_l ms
    by_half true = omega arith
    by_half false = omega arith

-- masking with 2^n - 1 leaves as many set bits as there are below bit n
pub below : (bits n : ℕ) → n < 64 → count_ones (bit_and bits (1 * 2 ^ n % 18446744073709551616 - 1)) ≡ count_ones (bits % 2 ^ n)
below bits n within = ap (λ (k : ℕ). count_ones (bit_and bits (k - 1))) (one_shl n 64 within) ∙ ap count_ones (and_mask bits n)

-- ---- bits shifted up by one or two places, and down by one

pub bit_below : (n i : ℕ) → i < 64 → bit_at (n % 2 ^ 64) i ≡ bit_at n i
bit_below n i lt =
    let parts : n ≡ n / 2 ^ 64 * 2 ^ 64 + n % 2 ^ 64 = omega arith in
    sym (bit_at_cat_low (n / 2 ^ 64) 64 (n % 2 ^ 64) i lt) ∙ sym (ap (λ m. bit_at m i) parts)

pub shl_one : (n i : ℕ) → i + 1 < 64 → bit_at (n * 2 % 2 ^ 64) (i + 1) ≡ bit_at n i
shl_one n i lt =
    let next : i + 1 ≡ suc i = omega arith in
    let half : n * 2 / 2 ≡ n = omega arith in
    bit_below (n * 2) (i + 1) lt ∙ ap (bit_at (n * 2)) next ∙ bit_at-suc (n * 2) i ∙ ap (λ m. bit_at m i) half

pub shl_two : (n i : ℕ) → i + 2 < 64 → bit_at (n * 4 % 2 ^ 64) (i + 2) ≡ bit_at n i
shl_two n i lt =
    let next : i + 2 ≡ suc (suc i) = omega arith in
    let half : n * 4 / 2 / 2 ≡ n = omega arith in
    bit_below (n * 4) (i + 2) lt ∙ ap (bit_at (n * 4)) next ∙ bit_at-suc (n * 4) (suc i) ∙ bit_at-suc (n * 4 / 2) i ∙ ap (λ m. bit_at m i) half

pub shr_one : (n i : ℕ) → bit_at (n / 2) i ≡ bit_at n (i + 1)
shr_one n i = let next : suc i ≡ i + 1 = omega arith in sym (bit_at-suc n i) ∙ ap (bit_at n) next

-- ---- short words

module _ (words digits stars : ℕ) (D : digits < 2 ^ 64) (S : stars < 2 ^ 64) where
  abbrev two : ℕ
  two = bit_and words (words * 2 % 18446744073709551616)

  abbrev other : ℕ
  other = bit_and words (18446744073709551615 - bit_or digits stars)

  abbrev joined : ℕ
  joined = bit_and stars (bit_or (words * 2 % 18446744073709551616) (words / 2))

  abbrev four : ℕ
  four = bit_and two (two * 4 % 18446744073709551616)

  record NoBit (i : ℕ) : Type 0 where
    other : bit_at other i ≡ 0
    joined : bit_at joined i ≡ 0
    four : bit_at four i ≡ 0
    one : bit_at (bit_and words 1) i ≡ 0

  none : bit_or (bit_or (bit_or other joined) four) (bit_and words 1) ≡ 0 → (i : ℕ) → NoBit i
  none e i =
      let all = sym (ap (λ m. bit_at m i) e) in
      let sum : max (max (max (bit_at other i) (bit_at joined i)) (bit_at four i)) (bit_at (bit_and words 1) i) ≡ 0 =
      ap (λ m. max m (bit_at (bit_and words 1) i)) (ap (λ m. max m (bit_at four i)) (sym (bit_at_or other joined i)) ∙ sym (bit_at_or (bit_or other joined) four i))
      ∙ sym (bit_at_or (bit_or (bit_or other joined) four) (bit_and words 1) i) ∙ ap (λ m. bit_at m i) e ∙ bit_at-zero i in
      record { other = omega (arith, sum); joined = omega (arith, sum); four = omega (arith, sum); one = omega (arith, sum) }

  two_at : (i : ℕ) → i + 1 < 64 → bit_at two (i + 1) ≡ min (bit_at words (i + 1)) (bit_at words i)
  two_at i lt = bit_at_and words (words * 2 % 2 ^ 64) (i + 1) ∙ ap (min (bit_at words (i + 1))) (shl_one words i lt)

  pub short_words : (bit_or (bit_or (bit_or other joined) four) (bit_and words 1) == 0) ≡ true → AreStarsOrThreeDigitNumbers words digits stars
  short_words is =
      let e = eqb-true _ 0 is in
      record {
        first = let o = bit_at_and words 1 0 in let low : bit_at 1 0 ≡ 1 = refl in omega (arith, (none e 0).one, o, low);
        known = λ i lt word digit.
            let fits : bit_or digits stars < 2 ^ 64 = or_lt 64 digits stars D S in
            let o = bit_at_and words (18446744073709551615 - bit_or digits stars) i in
            let n : bit_at (18446744073709551615 - bit_or digits stars) i ≡ 1 - bit_at (bit_or digits stars) i = bit_at_not w64 (bit_or digits stars) i fits lt in
            let m = bit_at_or digits stars i in
            omega (arith, (none e i).other, o, n, m, bit_at-lt stars i);
        before = λ i lt star.
            let o = bit_at_and stars (bit_or (words * 2 % 18446744073709551616) (words / 2)) (i + 1) in
            let m = bit_at_or (words * 2 % 18446744073709551616) (words / 2) (i + 1) in
            let k : bit_at (words * 2 % 18446744073709551616) (i + 1) ≡ bit_at words i = shl_one words i lt in
            omega (arith, (none e (i + 1)).joined, o, m, k);
        behind = λ i star.
            let o = bit_at_and stars (bit_or (words * 2 % 18446744073709551616) (words / 2)) i in
            let m = bit_at_or (words * 2 % 18446744073709551616) (words / 2) i in
            omega (arith, (none e i).joined, o, m, shr_one words i);
        few = λ i lt a b d.
            let o = bit_at_and two (two * 4 % 18446744073709551616) (i + 3) in
            let third : i + 2 + 1 ≡ i + 3 = omega arith in
            let fourth : i + 1 + 2 ≡ i + 3 = omega arith in
            let second : i + 1 + 1 ≡ i + 2 = omega arith in
            let low : i + 1 < 64 = omega arith in
            let higher : i + 2 + 1 < 64 = omega arith in
            let highest : i + 1 + 2 < 64 = omega arith in
            let upper : bit_at two (i + 3) ≡ min (bit_at words (i + 3)) (bit_at words (i + 2)) = rw third at (two_at (i + 2) higher) in
            let lower : bit_at (two * 4 % 18446744073709551616) (i + 3) ≡ min (bit_at words (i + 1)) (bit_at words i) = rw fourth at (shl_two two (i + 1) highest) ∙ two_at i low in
            omega (arith, (none e (i + 3)).four, o, upper, lower, bit_at-lt words (i + 3));
      }

-- ---- lanes that set bits select

-- the positions of the set bits among the lowest n bits, counted from p
abbrev places : ℕ → ℕ → ℕ → List ℕ
places zero p m = []
places (suc n) p m = if m % 2 == 1 then p ∷ places n (p + 1) (m / 2) else places n (p + 1) (m / 2)

kept_at : (ms : List Bool) (p : ℕ) (vs : List ℕ) → p + length ms ≤ length vs → map (λ k. get_or vs k 0) (places (length ms) p (mask_l ms)) ≡ flagged_items ms (drop p vs)
kept_at [] p vs le = refl
kept_at (true ∷ ms) p vs le =
    let m = mask_l ms in
    let odd : (1 + 2 * m) % 2 ≡ 1 = omega arith in
    let half : (1 + 2 * m) / 2 ≡ m = omega arith in
    rw (odd, half, drop_more vs p 0 (omega arith)) (ap (λ (l : List ℕ). get_or vs p 0 ∷ l) (kept_at ms (p + 1) vs (omega arith)))
kept_at (false ∷ ms) p vs le =
    let m = mask_l ms in
    let even : (0 + 2 * m) % 2 ≡ 0 = omega arith in
    let half : (0 + 2 * m) / 2 ≡ m = omega arith in
    rw (even, half, drop_more vs p 0 (omega arith)) (kept_at ms (p + 1) vs (omega arith))

both : (a b : Bool) → T (a && b) → T a × T b
both true b h = (tt, h)
both false b h = absurd h

abbrev alike : List ℕ → List ℕ → Bool
alike [] [] = true
alike [] (y ∷ ys) = false
alike (x ∷ xs) [] = false
alike (x ∷ xs) (y ∷ ys) = eqb x y && alike xs ys

eqb-is : (a b : ℕ) → T (eqb a b) → a ≡ b
eqb-is a b t = by (eqb a b) refl t
  where
    by : (e : Bool) → eqb a b ≡ e → T e → a ≡ b
    by true e t = eqb-true a b e
    by false e t = absurd t

alike_is : (xs ys : List ℕ) → T (alike xs ys) → xs ≡ ys
alike_is [] [] h = refl
alike_is [] (y ∷ ys) h = absurd h
alike_is (x ∷ xs) [] h = absurd h
alike_is (x ∷ xs) (y ∷ ys) h =
    let parts = both (eqb x y) (alike xs ys) h in
    ap₂ (λ (a : ℕ) (l : List ℕ). a ∷ l) (eqb-is x y parts.0) (alike_is xs ys parts.1)

each_below : (xs : List ℕ) → T (all_below 16 xs) → Each1 (λ j. j < 16) xs
each_below [] h = tt
each_below (x ∷ xs) h = let parts = both (ltb x 16) (all_below 16 xs) h in (by (ltb x 16) refl parts.0, each_below xs parts.1)
  where
    by : (b : Bool) → ltb x 16 ≡ b → T b → x < 16
    by true e t = grind (arith, nat_tests)
    by false e t = absurd t

abbrev row : List ℕ → ℕ → List ℕ
row table m = take 16 (drop 0 (take (2056 - 8 * m) (drop (8 * m) table)))

-- the table's row for a number begins with the positions of its set bits, and each entry is below 16
abbrev good : List ℕ → ℕ → Bool
good table m = alike (take (count_ones m) (row table m)) (places 8 0 m) && (all_below 16 (row table m) && eqb (length (row table m)) 16)

good_at : (table : List ℕ) → T (upto (good table) 256) → (m : ℕ) → m < 256 → T (good table m)
good_at table all m lt = upto_sound (good table) 256 all m lt

record IsRow (table : List ℕ) (m : ℕ) : Type 0 where
  picks : take (count_ones m) (row table m) ≡ places 8 0 m
  low : Each1 (λ j. j < 16) (row table m)
  long : length (row table m) ≡ 16

row_is : (table : List ℕ) → T (upto (good table) 256) → (m : ℕ) → m < 256 → IsRow table m
row_is table all m lt =
    let picks = alike (take (count_ones m) (row table m)) (places 8 0 m) in
    let low = all_below 16 (row table m) in
    let long = eqb (length (row table m)) 16 in
    let first = both picks (low && long) (good_at table all m lt) in
    let second = both low long first.1 in
    record { picks = alike_is _ _ first.0; low = each_below (row table m) second.0; long = eqb-is _ _ second.1 }

few : (table : List ℕ) (m : ℕ) → 0 + length (row table m) ≤ 16
few table m = omega (arith, length-take 16 (drop 0 (take (2056 - 8 * m) (drop (8 * m) table))))

pub row_fits : (table : List ℕ) → T (upto (good table) 256) → (m : ℕ) → m < 256 → SwzOk w8 16 16 0 (row table m)
row_fits table all m lt = SwzOk-from_below w8 16 1 16 0 (row table m) refl (few table m) (row_is table all m lt).low

-- shuffling a block of 16 with positions below 16 selects the bytes at these positions
swz_is : (v : List ℕ) (i : ℕ) (js : List ℕ) → i + length js ≤ 16 → Each1 (λ j. j < 16) js → swz_l w8 16 v i js ≡ map (λ j. get_or v j 0) js
swz_is v i [] few low = refl
swz_is v i (j ∷ js) few low =
    let below : j < 128 = omega (arith, low.0) in
    let no : leb 128 j ≡ false = lt-leb 128 j below in
    let block : 16 * (i / 16) + j ≡ j = omega arith in
    let here : cond (leb 128 j) 0 (get_or v (16 * (i / 16) + j) 0) ≡ get_or v j 0 = rw (no, block) refl in
    ap₂ (λ (a : ℕ) (l : List ℕ). a ∷ l) here (swz_is v (suc i) js (omega arith) low.1)

pub row_picks : (table : List ℕ) → T (upto (good table) 256) → (v : List ℕ) → 8 ≤ length v → (m : ℕ) → m < 256 → (ms : List Bool) → length ms ≡ 8 → m ≡ mask_l ms
    → take (count_ones m) (swz_l w8 16 v 0 (row table m)) ≡ flagged_items ms v
row_picks table all v long m lt ms size is =
    let pick : ℕ → ℕ = λ j. get_or v j 0 in
    ap (take (count_ones m)) (swz_is v 0 (row table m) (few table m) (row_is table all m lt).low)
    ∙ take-map pick (count_ones m) (row table m) ∙ ap (map pick) (row_is table all m lt).picks
    ∙ ap₂ (λ n k. map pick (places n 0 k)) (sym size) is ∙ kept_at ms 0 v (omega (arith, size))

pub row_long : (table : List ℕ) → T (upto (good table) 256) → (v : List ℕ) (m : ℕ) → m < 256 → length (swz_l w8 16 v 0 (row table m)) ≡ 16
row_long table all v m lt = length-swz_l w8 16 v 0 (row table m) ∙ (row_is table all m lt).long

-- ---- three words in a row

pub not_three : (words : ℕ) → bit_and (bit_and words (words * 2 % 18446744073709551616)) (words * 4 % 18446744073709551616) ≡ 0
    → (i : ℕ) → i + 2 < 64 → bit_at words i ≡ 1 → bit_at words (i + 1) ≡ 1 → bit_at words (i + 2) ≡ 1 → ⊥
not_three words none i lt a b d =
    let second : i + 1 + 1 ≡ i + 2 = omega arith in
    let low : i + 1 + 1 < 64 = omega arith in
    let twice : bit_at (words * 2 % 18446744073709551616) (i + 2) ≡ bit_at words (i + 1) = rw second at (shl_one words (i + 1) low) in
    let all = bit_at_and (bit_and words (words * 2 % 18446744073709551616)) (words * 4 % 18446744073709551616) (i + 2) in
    let front = bit_at_and words (words * 2 % 18446744073709551616) (i + 2) in
    let zero = ap (λ m. bit_at m (i + 2)) none ∙ bit_at-zero (i + 2) in
    absurd (omega (arith, all, front, zero, twice, shl_two words i lt, a, b, d))

-- ---- some more lanes

-- the number of true lanes
abbrev pub trues : List Bool → ℕ
trues [] = 0
trues (m ∷ ms) = cond m 1 0 + trues ms

pub ones_are : (ms : List Bool) → count_ones (mask_l ms) ≡ trues ms
ones_are [] = ones-mask_l (λ (m : Bool). m) []
ones_are (m ∷ ms) = ones-mask_l_cons m ms ∙ ap (λ n. cond m 1 0 + n) (ones_are ms)

pub trues-add : (a b : ℕ) (ms : List Bool) → trues (take (a + b) ms) ≡ trues (take a ms) + trues (take b (drop a ms))
trues-add zero b ms =
    let same : 0 + b ≡ b = omega arith in
    let all : trues (take b ms) ≡ 0 + trues (take b ms) = omega arith in
    ap (λ n. trues (take n ms)) same ∙ all
trues-add (suc a) b [] = let next : suc a + b ≡ suc (a + b) = omega arith in rw next (none b)
  where
    none : (b : ℕ) → 0 ≡ 0 + trues (take b [])
    none zero = refl
    none (suc b) = refl
trues-add (suc a) b (m ∷ ms) = let next : suc a + b ≡ suc (a + b) = omega arith in rw next (omega (arith, trues-add a b ms))

pub kept-add : (a b : ℕ) (ms : List Bool) (vs : List ℕ) → a ≤ length ms → a ≤ length vs
    → flagged_items (take (a + b) ms) (take (a + b) vs) ≡ flagged_items (take a ms) (take a vs) ++ flagged_items (take b (drop a ms)) (take b (drop a vs))
kept-add zero b ms vs le few = let same : 0 + b ≡ b = omega arith in rw same refl
kept-add (suc a) b [] vs le few = absurd (omega arith)
kept-add (suc a) b (m ∷ ms) [] le few = absurd (omega arith)
kept-add (suc a) b (true ∷ ms) (v ∷ vs) le few =
    let next : suc a + b ≡ suc (a + b) = omega arith in
    rw next (ap (λ (l : List ℕ). v ∷ l) (kept-add a b ms vs (omega arith) (omega arith)))
kept-add (suc a) b (false ∷ ms) (v ∷ vs) le few =
    let next : suc a + b ≡ suc (a + b) = omega arith in
    rw next (kept-add a b ms vs (omega arith) (omega arith))

pub kept-take : (ms : List Bool) (vs : List ℕ) → flagged_items ms (take (length ms) vs) ≡ flagged_items ms vs
kept-take [] vs = refl
kept-take (m ∷ ms) [] = refl
kept-take (true ∷ ms) (v ∷ vs) = ap (λ (l : List ℕ). v ∷ l) (kept-take ms vs)
kept-take (false ∷ ms) (v ∷ vs) = kept-take ms vs

pub mask-drop : (k : ℕ) (ms : List Bool) → mask_l ms / 2 ^ k ≡ mask_l (drop k ms)
mask-drop zero ms = omega arith
mask-drop (suc k) [] = zero-div (2 ^ suc k)
  where
    zero-div : (n : ℕ) → 0 / n ≡ 0
    zero-div n = omega arith
mask-drop (suc k) (m ∷ ms) =
    let n = bit m + 2 * mask_l ms in
    let twice : 2 ^ suc k ≡ 2 * 2 ^ k = omega (arith, pow-suc 2 k) in
    ap (λ j. n / j) twice ∙ sym (div-div-eq-div-mul n 2 (2 ^ k)) ∙ ap (λ j. j / 2 ^ k) (by_half m) ∙ mask-drop k ms
  where
    by_half : (b : Bool) → (bit b + 2 * mask_l ms) / 2 ≡ mask_l ms
    by_half true = omega arith
    by_half false = omega arith

take_past : {X : Type 0} → (a b : List X) (n : ℕ) → take (length a + n) (a ++ b) ≡ a ++ take n b
take_past [] b n = let same : 0 + n ≡ n = omega arith in ap (λ k. take k b) same
take_past (x ∷ a) b n = let next : suc (length a) + n ≡ suc (length a + n) = omega arith in rw next (ap (λ l. x ∷ l) (take_past a b n))

-- after bytes are stored at index i, the row begins with its first i bytes and the first n of the stored bytes
pub stored_first : (i n : ℕ) (row ys : List ℕ) → i + length ys ≤ length row → n ≤ length ys → take (i + n) (put_chunk i row ys) ≡ take i row ++ take n ys
stored_first i n row ys room few =
    let m = i + length ys in
    let less : i + n ≤ m = omega arith in
    let size : length (take i row) ≡ i = omega (arith, length-take i row) in
    sym (take-take (i + n) m (put_chunk i row ys) less) ∙ ap (take (i + n)) (take_more_put_chunk i row ys m refl room)
    ∙ ap (λ k. take (k + n) (take i row ++ ys)) (sym size) ∙ take_past (take i row) ys n

-- the next eight lanes are the next eight bits of the mask
pub next_eight : (k : ℕ) (bits : ℕ) (ms : List Bool) → length ms ≡ 64 → k < 8 → bits ≡ mask_l ms
    → (length (take 8 (drop (8 * k) ms)) ≡ 8) × (bit_and (bits / 2 ^ (8 * k)) 255 ≡ mask_l (take 8 (drop (8 * k) ms)))
next_eight k bits ms size lt is =
    let rest = drop (8 * k) ms in (
      omega (arith, length-take 8 rest, length-drop (8 * k) ms, size),
      and_mask (bits / 2 ^ (8 * k)) 8 ∙ ap (λ m. m / 2 ^ (8 * k) % 2 ^ 8) is ∙ ap (λ m. m % 2 ^ 8) (mask-drop (8 * k) ms) ∙ mask-take 8 rest,
    )

pub few_ones : (n : ℕ) → count_ones (bit_and n 255) ≤ 8
few_ones n = ones-le 8 (bit_and n 255) (let small = and_mask n 8 in omega (arith, small))
