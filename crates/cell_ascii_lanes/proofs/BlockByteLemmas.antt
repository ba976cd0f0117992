-- The bytes of a block, and their bits in masks.
use Rattle.std.proofs.Common.{◌≡◌, ℕ, zero, suc, ◌+◌, ◌-◌, ◌<◌, ◌≤◌, Bool, true, false, List, [], ◌∷◌, map}
use Rattle.std.proofs.Common.{length, take, drop, get_or, refl, ap, ◌∙◌, arith, length-take}
use Rattle.std.specs.List.{list_all}
use Rattle.std.specs.Int.{bit_at}
use Rattle.std.proofs.lemmas.List.{get_or-take, get_or-map, drop-take, take-take}
use Rattle.std.proofs.lemmas.Bool.Decides.{nat_tests}
use Rattle.std.proofs.lemmas.Simd.{bit_mask_l}
use Rattle.cell_core_values.specs.Digits.{is_digit}
use Rattle.cell_ascii_meaning.specs.GridTokens.{is_space}
use Rattle.cell_ascii_lanes.proofs.ByteBitLemmas.{bit}
use Rattle.cell_ascii_lanes.proofs.ByteValueLemmas.{both}
use lib.Lanes.{mask_l}

-- a list of n bytes passes a test if each of its bytes does
pub all_from : (f : ℕ → Bool) (n : ℕ) (xs : List ℕ) → n ≤ length xs → ((i : ℕ) → i < n → f (get_or xs i 0) ≡ true)
    → list_all f (take n xs) ≡ true
all_from f zero xs le each = refl
all_from f (suc n) [] le each = absurd (omega arith)
all_from f (suc n) (x ∷ xs) le each = rw (each 0 (omega arith))
    (all_from f n xs (omega arith) (λ i lt. each (suc i) (omega arith)))

-- if a list of n bytes passes a test, so does each of its bytes
pub one_from : (f : ℕ → Bool) (n : ℕ) (xs : List ℕ) → n ≤ length xs → list_all f (take n xs) ≡ true → (i : ℕ) → i < n
    → f (get_or xs i 0) ≡ true
one_from f zero xs le all i lt = absurd (omega arith)
one_from f (suc n) [] le all i lt = absurd (omega arith)
one_from f (suc n) (x ∷ xs) le all zero lt = (both (f x) (list_all f (take n xs)) all).0
one_from f (suc n) (x ∷ xs) le all (suc i) lt = one_from f n xs (omega arith)
    (both (f x) (list_all f (take n xs)) all).1 i (omega arith)

pub space_no_digit : (b : ℕ) → is_space b ≡ true → is_digit b ≡ false
space_no_digit b e = grind (arith, nat_tests)

-- a word within the first 64 bytes
pub word_of_block : (bs : List ℕ) (at n : ℕ) → at + n ≤ 64 → take n (drop at (take 64 bs)) ≡ take n (drop at bs)
word_of_block bs at n le =
    let parts : 64 ≡ at + (64 - at) = omega arith in
    let less : n ≤ 64 - at = omega arith in
    ap (λ m. take n (drop at (take m bs))) parts ∙ ap (take n) (drop-take at (64 - at) bs)
    ∙ take-take n (64 - at) (drop at bs) less

-- the bit of a byte in the mask of a test
pub bit_of : (bs : List ℕ) → 64 ≤ length bs → (f : ℕ → Bool) (i : ℕ) → i < 64
    → bit_at (mask_l (map f (take 64 bs))) i ≡ bit (f (get_or bs i 0))
bit_of bs long f i lt =
    let wide : length (take 64 bs) ≡ 64 = omega (arith, length-take 64 bs) in
    bit_mask_l (map f (take 64 bs)) i
    ∙ ap bit (get_or-map f (take 64 bs) i 0 false (omega (arith, wide)) ∙ ap f (get_or-take 64 bs i 0 lt))
