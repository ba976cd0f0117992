-- A run of blanks as bits, and the effect of adding 1 at its lowest bit.
use Rattle.std.proofs.Common.{◌≡◌, ℕ, zero, suc, ◌+◌, ◌-◌, ◌*◌, ◌%◌, ◌^◌, ◌<◌, ◌≤◌, cond, Bool, true, false}
use Rattle.std.proofs.Common.{List, [], ◌∷◌, map, length, take, drop, get_or, length-take, length-drop}
use Rattle.std.proofs.Common.{refl, ap, ap₂, sym, ◌∙◌, arith}
use Rattle.std.specs.List.{prefix_len, list_all}
use Rattle.std.specs.Int.Bits.{bit_and, and_self}
use Rattle.std.proofs.lemmas.Simd.{trailing_mask_l, leading_from_mask_l}
use Rattle.std.proofs.Math.Nat.{pow-suc}
use Rattle.std.proofs.Math.ListN.{get_or-map}
use Rattle.std.proofs.lemmas.Nat.{and_block}
use Rattle.std.proofs.lemmas.Bool.{cases_eq}
use Rattle.std.proofs.lemmas.List.{length-map, take-take, drop-take, drop-map, get_or-take, take_all}
use Rattle.std.proofs.lemmas.List.Sums.{prefix_len-le-length, prefix_len-drop_yes}
use Rattle.cell_ascii_meaning.specs.GridTokens.{is_space}
use Rattle.cell_ascii.specs.TableWords.{blanks, flags_with_first_cleared}
use Rattle.cell_ascii.specs.parts.BlankRuns.{ByteIsBlankAndBitsMarkBlanks, AreIndexAndBitsAfterBlanks}
use Rattle.cell_ascii.proofs.BitLemmas.{bit, turned, unset, itself, mask-take}
use lib.Count.{count_trailing_zeros}
use lib.Lanes.{mask_l}
use mathlib.Core.Logic.{inl, inr}

-- the number of leading true lanes
abbrev run : List Bool → ℕ
run ms = prefix_len (λ m. m) ms

-- the lanes plus one: the carry clears the leading true lanes and sets the next lane
abbrev carried : List Bool → List Bool
carried [] = true ∷ []
carried (true ∷ ms) = false ∷ carried ms
carried (false ∷ ms) = true ∷ ms

-- the lanes plus one from a place on, with the lanes before the place false
abbrev carried_at : ℕ → List Bool → List Bool
carried_at zero ms = carried ms
carried_at (suc n) [] = []
carried_at (suc n) (m ∷ ms) = false ∷ carried_at n ms

one-more : (ms : List Bool) → mask_l (carried ms) ≡ mask_l ms + 1
one-more [] = refl
one-more (true ∷ ms) = omega (arith, one-more ms)
one-more (false ∷ ms) = omega arith

sum : (at : ℕ) (ms : List Bool) → at ≤ length ms → mask_l (carried_at at ms)
    ≡ mask_l (flags_with_first_cleared at ms) + 2 ^ at
sum zero ms le = one-more ms
sum (suc n) [] le = absurd (omega arith)
sum (suc n) (m ∷ ms) le = omega (arith, sum n ms (omega arith), pow-suc 2 n)

-- the lanes after the carry, cut to the old number of lanes
abbrev front : ℕ → List Bool → List Bool
front at ms = take (length ms) (carried_at at ms)

front-length : (at : ℕ) (ms : List Bool) → at ≤ length ms → length (front at ms) ≡ length ms
front-length zero [] le = refl
front-length zero (true ∷ ms) le = ap suc (front-length zero ms (omega arith))
front-length zero (false ∷ ms) le = ap suc (ap length (take_all (length ms) ms (omega arith)))
front-length (suc n) [] le = absurd (omega arith)
front-length (suc n) (m ∷ ms) le = ap suc (front-length n ms (omega arith))

-- the lowest set bit after the carry marks the lane after the run
front-lowest : (at : ℕ) (ms : List Bool) → at ≤ length ms → unset (front at ms) ≡ at + run (drop at ms)
front-lowest zero [] le = refl
front-lowest zero (true ∷ ms) le = omega (arith, front-lowest zero ms (omega arith))
front-lowest zero (false ∷ ms) le = refl
front-lowest (suc n) [] le = absurd (omega arith)
front-lowest (suc n) (m ∷ ms) le = omega (arith, front-lowest n ms (omega arith))

next-bit : (a b c : Bool) (m n r : ℕ) → bit_and (bit a) (bit b) ≡ bit c → bit_and m n ≡ r
    → bit_and (bit a + 2 * m) (bit b + 2 * n) ≡ bit c + 2 * r
next-bit a b c m n r low high =
    ap₂ bit_and (turned a m) (turned b n) ∙ and_block 1 m n (bit a) (bit b) (two a) (two b)
    ∙ ap₂ (λ (k : ℕ) (l : ℕ). k * 2 ^ 1 + l) high low ∙ sym (turned c r)
  where
    two : (t : Bool) → bit t < 2 ^ 1
    two true = omega arith
    two false = omega arith

-- the lanes after the run are unchanged by the carry
front-others : (at : ℕ) (ms : List Bool) → at ≤ length ms
    → bit_and (mask_l (flags_with_first_cleared at ms)) (mask_l (front at ms))
    ≡ mask_l (flags_with_first_cleared (at + run (drop at ms)) ms)
front-others zero [] le = and_self 0
front-others zero (true ∷ ms) le =
    let k = run ms in
    let one : 0 + (1 + k) ≡ suc k = omega arith in
    let same : 0 + k ≡ k = omega arith in
    let rest : bit_and (mask_l ms) (mask_l (front zero ms)) ≡ mask_l (flags_with_first_cleared k ms) =
    rw same at (front-others zero ms (omega arith)) in
    next-bit true false false (mask_l ms) (mask_l (front zero ms)) (mask_l (flags_with_first_cleared k ms)) refl rest
    ∙ ap (λ (n : ℕ). mask_l (flags_with_first_cleared n (true ∷ ms))) (sym one)
front-others zero (false ∷ ms) le =
    let all : bit_and (mask_l ms) (mask_l (take (length ms) ms)) ≡ mask_l ms =
    ap (λ (l : List Bool). bit_and (mask_l ms) (mask_l l)) (take_all (length ms) ms (omega arith))
    ∙ and_self (mask_l ms) in
    next-bit false true false (mask_l ms) (mask_l (take (length ms) ms)) (mask_l ms) refl all
front-others (suc n) [] le = absurd (omega arith)
front-others (suc n) (m ∷ ms) le =
    let k = run (drop n ms) in
    let one : suc n + k ≡ suc (n + k) = omega arith in
    let rest = front-others n ms (omega arith) in
    next-bit false false false (mask_l (flags_with_first_cleared n ms)) (mask_l (front n ms)) (mask_l (flags_with_first_cleared (n + k) ms)) refl rest
    ∙ ap (λ (j : ℕ). mask_l (flags_with_first_cleared j (m ∷ ms))) (sym one)

-- the lowest set bit of 64 lanes is the first true lane, or 64 if there is none
lowest-of : (ms : List Bool) → length ms ≡ 64 → count_trailing_zeros 64 (mask_l ms) ≡ unset ms
unfolding count_trailing_zeros
lowest-of ms long =
    let same = ap mask_l (itself ms) in
    elim (cases_eq (mask_l ms) 0) [
      | inl none ↦
          ap (count_trailing_zeros 64) none ∙ sym (leading_from_mask_l (λ (m : Bool). m) ms (same ∙ none) ∙ long)
      | inr some ↦
          ap (count_trailing_zeros 64) (sym same)
          ∙ trailing_mask_l (λ (m : Bool). m) 64 ms (omega (arith, long)) (omega (arith, same, some))
    ]

all-blanks : (xs : List ℕ) → list_all is_space (take (run (map is_space xs)) xs) ≡ true
all-blanks [] = refl
all-blanks (x ∷ xs) = by (is_space x) refl (all-blanks xs)
  where
    by : (s : Bool) → is_space x ≡ s → list_all is_space (take (run (map is_space xs)) xs) ≡ true
        → list_all is_space (take (cond s (1 + run (map is_space xs)) 0) (x ∷ xs)) ≡ true
    by true e is =
        let one : 1 + run (map is_space xs) ≡ suc (run (map is_space xs)) = omega arith in
        ap (λ (n : ℕ). list_all is_space (take n (x ∷ xs))) one ∙ rw (e, is) refl
    by false e is = refl

-- adding the bit of a blank gives the place after the last blank of its run
pub behind-blanks : (bs : List ℕ) (ends at bit : ℕ) → at < 64 → bit ≡ 2 ^ at → ByteIsBlankAndBitsMarkBlanks bs ends at
    → AreIndexAndBitsAfterBlanks bs at (
      count_trailing_zeros 64 ((ends + bit) % 2 ^ 64),
      bit_and ends
          ((ends + bit) % 2 ^ 64),
    )
behind-blanks bs ends at bit few power is =
    let buffered = is.buffered in
    let ms = blanks bs in
    let k = run (drop at ms) in
    let wide : length (take 64 bs) ≡ 64 = omega (arith, length-take 64 bs) in
    let long : length ms ≡ 64 = length-map (take 64 bs) is_space ∙ wide in
    let within : at ≤ length ms = omega (arith, long) in
    let value : (ends + bit) % 2 ^ 64 ≡ mask_l (front at ms) =
    ap₂ (λ (n : ℕ) (k : ℕ). (n + k) % 2 ^ 64) is.bits power
    ∙ ap (λ (n : ℕ). n % 2 ^ 64) (sym (sum at ms within))
    ∙ mask-take 64 (carried_at at ms)
    ∙ ap (λ (n : ℕ). mask_l (take n (carried_at at ms))) (sym long) in
    let place : count_trailing_zeros 64 ((ends + bit) % 2 ^ 64) ≡ at + k =
    ap (count_trailing_zeros 64) value
    ∙ lowest-of (front at ms) (front-length at ms within ∙ long)
    ∙ front-lowest at ms within in
    let here : get_or ms at false ≡ true =
    get_or-map is_space (take 64 bs) at 0 ∙ ap is_space (get_or-take 64 bs at 0 few) ∙ is.blank in
    let more : k ≡ 1 + run (drop (at + 1) ms) =
    prefix_len-drop_yes (λ (m : Bool). m) ms at false (omega (arith, long)) here in
    let fits = prefix_len-le-length (λ (m : Bool). m) (drop at ms) in
    let less : k ≤ 64 - at = omega (arith, fits, length-drop at ms, long) in
    let size : at + k - at ≡ k = omega arith in
    let all : 64 ≡ at + (64 - at) = omega arith in
    let part : take k (drop at (take 64 bs)) ≡ take k (drop at bs) =
    ap (λ (n : ℕ). take k (drop at (take n bs))) all
    ∙ ap (take k) (drop-take at (64 - at) bs)
    ∙ take-take k (64 - at) (drop at bs) less in
    let run-is : list_all is_space (take k (drop at (take 64 bs))) ≡ true =
    ap (λ (l : List Bool). list_all is_space (take (run l) (drop at (take 64 bs)))) (drop-map is_space at (take 64 bs))
    ∙ all-blanks (drop at (take 64 bs)) in
    rw (place, value) (record {
      some = omega (arith, more);
      few = omega (arith, less);
      run = rw size (ap (list_all is_space) (sym part) ∙ run-is);
      bits = ap (λ (n : ℕ). bit_and n (mask_l (front at ms))) is.bits ∙ front-others at ms within;
    })
