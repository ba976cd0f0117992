-- The ends of words, as bits.
use Rattle.std.proofs.Common.{◌≡◌, ℕ, zero, suc, ◌+◌, ◌-◌, ◌*◌, ◌/◌, ◌^◌, ◌<◌, ◌≤◌, cond, Bool, true, false, not, min, List, [], ◌∷◌, ◌++◌, length, take, get_or, refl, sym, ap, ap₂, ◌∙◌, arith, w64}
use Rattle.std.specs.Prelude.{◌&&◌}
use Rattle.std.specs.Int.{bit_at}
use Rattle.std.proofs.lemmas.Simd.{bit_mask_l, mask_l-lt}
use Rattle.std.proofs.lemmas.Nat.{and_le_r}
use Rattle.std.proofs.lemmas.Nat.Bits.{bit_at-suc, bit_at_and, bit_at_not, same_from_bits_below}
use Rattle.std.specs.Int.Count.{count_leading_zeros, leading_unique}
use Rattle.std.proofs.Math.Nat.{pow-suc}
use Rattle.cell_ascii_lanes.specs.WordLanes.{flagged_items}
use Rattle.cell_ascii_lanes.proofs.ByteBitLemmas.{trues}
use lib.Bits.{bit_and}
use lib.Lanes.{mask_l}

-- true at the last byte of each word: a byte that is not a blank and is followed by a blank
abbrev pub ends_of : List Bool → List Bool
ends_of [] = []
ends_of (s ∷ []) = false ∷ []
ends_of (s ∷ t ∷ ss) = (not s && t) ∷ ends_of (t ∷ ss)

pub length-ends : (ss : List Bool) → length (ends_of ss) ≡ length ss
length-ends [] = refl
length-ends (s ∷ []) = refl
length-ends (s ∷ t ∷ ss) = ap suc (length-ends (t ∷ ss))

pub ends_at : (ss : List Bool) (i : ℕ) → i < length ss → get_or (ends_of ss) i false ≡ (not (get_or ss i false) && get_or ss (i + 1) false)
ends_at [] i lt = absurd (omega arith)
ends_at (s ∷ []) zero lt = by s
  where
    by : (b : Bool) → false ≡ (not b && false)
    by true = refl
    by false = refl
ends_at (s ∷ []) (suc i) lt = absurd (omega arith)
ends_at (s ∷ t ∷ ss) zero lt = refl
ends_at (s ∷ t ∷ ss) (suc i) lt =
    let next : suc i + 1 ≡ suc (i + 1) = omega arith in
    ends_at (t ∷ ss) i (omega arith) ∙ ap (λ k. not (get_or (t ∷ ss) i false) && get_or (s ∷ t ∷ ss) k false) (sym next)

abbrev bit : Bool → ℕ
bit b = cond b 1 0

both_bits : (s t : Bool) → min (1 - bit s) (bit t) ≡ bit (not s && t)
both_bits true true = refl
both_bits true false = refl
both_bits false true = refl
both_bits false false = refl

pub ends_mask : (ss : List Bool) → length ss ≡ 64 → bit_and (18446744073709551615 - mask_l ss) (mask_l ss / 2) ≡ mask_l (ends_of ss)
ends_mask ss size =
    let m = mask_l ss in
    let small : m < 2 ^ 64 = rw size at (mask_l-lt ss) in
    let low : mask_l (ends_of ss) < 2 ^ 64 = rw (length-ends ss, size) at (mask_l-lt (ends_of ss)) in
    let words = 18446744073709551615 - m in
    let fits : bit_and words (m / 2) < 2 ^ 64 = omega (arith, and_le_r words (m / 2), small) in
    same_from_bits_below 64 (bit_and words (m / 2)) (mask_l (ends_of ss)) fits low
    (λ i lt.
    let next : suc i ≡ i + 1 = omega arith in
    let inside : i < length ss = omega (arith, size) in
    let left : bit_at words i ≡ 1 - bit (get_or ss i false) = bit_at_not w64 m i small lt ∙ ap (λ n. 1 - n) (bit_mask_l ss i) in
    let right : bit_at (m / 2) i ≡ bit (get_or ss (i + 1) false) = sym (bit_at-suc m i) ∙ ap (bit_at m) next ∙ bit_mask_l ss (i + 1) in
    bit_at_and words (m / 2) i ∙ ap₂ min left right ∙ both_bits (get_or ss i false) (get_or ss (i + 1) false)
    ∙ ap bit (sym (ends_at ss i inside)) ∙ sym (bit_mask_l (ends_of ss) i))

-- ---- the first end of a word

abbrev pub front : ℕ → List Bool → List Bool
front q [] = []
front zero (m ∷ ms) = false ∷ front zero ms
front (suc q) (m ∷ ms) = m ∷ front q ms

pub length-front : (q : ℕ) (ms : List Bool) → length (front q ms) ≡ length ms
length-front q [] = refl
length-front zero (m ∷ ms) = ap suc (length-front zero ms)
length-front (suc q) (m ∷ ms) = ap suc (length-front q ms)

pub front-mask : (q : ℕ) (ms : List Bool) → mask_l (take q ms) ≡ mask_l (front q ms)
front-mask zero [] = refl
front-mask (suc q) [] = refl
front-mask zero (m ∷ ms) = let rest : 0 ≡ mask_l (front zero ms) = front-mask zero ms in omega (arith, rest)
front-mask (suc q) (m ∷ ms) = ap (λ n. bit m + 2 * n) (front-mask q ms)

pub front-trues : (q : ℕ) (ms : List Bool) → trues (front q ms) ≡ trues (take q ms)
front-trues zero [] = refl
front-trues (suc q) [] = refl
front-trues zero (m ∷ ms) = let rest : trues (front zero ms) ≡ 0 = front-trues zero ms in omega (arith, rest)
front-trues (suc q) (m ∷ ms) = ap (λ n. bit m + n) (front-trues q ms)

pub front-kept : (q : ℕ) (ms : List Bool) (vs : List ℕ) → flagged_items (front q ms) vs ≡ flagged_items (take q ms) vs
front-kept zero [] vs = refl
front-kept (suc q) [] vs = refl
front-kept zero (m ∷ ms) [] = refl
front-kept zero (m ∷ ms) (v ∷ vs) = front-kept zero ms vs
front-kept (suc q) (m ∷ ms) [] = refl
front-kept (suc q) (true ∷ ms) (v ∷ vs) = ap (λ (l : List ℕ). v ∷ l) (front-kept q ms vs)
front-kept (suc q) (false ∷ ms) (v ∷ vs) = front-kept q ms vs

-- ---- the place after the last end of a word

abbrev raised : Bool → ℕ → ℕ
raised m zero = bit m
raised m (suc n) = suc (suc n)

abbrev pub top : List Bool → ℕ
top [] = 0
top (m ∷ ms) = raised m (top ms)

raised-le : (m : Bool) (n k : ℕ) → n ≤ k → raised m n ≤ suc k
raised-le true zero k le = omega arith
raised-le false zero k le = omega arith
raised-le m (suc n) k le = omega arith

pub top-le : (ms : List Bool) → top ms ≤ length ms
top-le [] = omega arith
top-le (m ∷ ms) = raised-le m (top ms) (length ms) (top-le ms)

pub top-set : (ms : List Bool) → top (ms ++ true ∷ []) ≡ suc (length ms)
top-set [] = refl
top-set (m ∷ ms) = ap (raised m) (top-set ms)

pub top-unset : (ms : List Bool) → top (ms ++ false ∷ []) ≡ top ms
top-unset [] = refl
top-unset (m ∷ ms) = ap (raised m) (top-unset ms)

pub front-top : (q : ℕ) (ms : List Bool) → top (front q ms) ≡ top (take q ms)
front-top zero [] = refl
front-top (suc q) [] = refl
front-top zero (m ∷ ms) = ap (raised false) (front-top zero ms)
front-top (suc q) (m ∷ ms) = ap (raised m) (front-top q ms)

record IsTop (n m : ℕ) : Type 0 where
  below : n < 2 ^ m
  above : 2 ^ m ≤ 2 * n + 1

is_raised : (m : Bool) (n k : ℕ) → IsTop n k → IsTop (bit m + 2 * n) (raised m k)
is_raised true n zero is = let none : n ≡ 0 = omega (arith, is.below) in rw none (record { below = omega arith; above = omega arith })
is_raised false n zero is = let none : n ≡ 0 = omega (arith, is.below) in rw none (record { below = omega arith; above = omega arith })
is_raised m n (suc k) is =
    let twice = pow-suc 2 (suc k) in
    let even = pow-suc 2 k in
    by m
  where
    by : (b : Bool) → IsTop (bit b + 2 * n) (suc (suc k))
    by true = record { below = omega (arith, is.below, pow-suc 2 (suc k)); above = omega (arith, is.above, pow-suc 2 (suc k), pow-suc 2 k) }
    by false = record { below = omega (arith, is.below, pow-suc 2 (suc k)); above = omega (arith, is.above, pow-suc 2 (suc k), pow-suc 2 k) }

is_top : (ms : List Bool) → IsTop (mask_l ms) (top ms)
is_top [] = record { below = omega arith; above = omega arith }
is_top (m ∷ ms) = is_raised m (mask_l ms) (top ms) (is_top ms)

pub top_is : (ms : List Bool) → length ms ≤ 64 → 64 - count_leading_zeros 64 (mask_l ms) ≡ top ms
top_is ms few =
    let is = is_top ms in
    let t = top ms in
    let low : t ≤ 64 = omega (arith, top-le ms) in
    let all : 64 - t + t ≡ 64 = omega arith in
    let zeros = leading_unique 64 (mask_l ms) (64 - t) t all is.below is.above in
    omega (arith, sym zeros, low)
