-- Words of digits, converted to numbers with three multiplications.
use Rattle.std.proofs.Common.{◌≡◌, ℕ, zero, suc, ◌+◌, ◌-◌, ◌*◌, ◌/◌, ◌%◌, ◌^◌, ◌<◌, ◌≤◌, leb, eqb, arith}
use Rattle.std.proofs.Common.{Bool, true, false, not, cond, refl, sym, ap, ap₂, ◌∙◌, Some, w8}
use Rattle.std.specs.Prelude.{fold}
use Rattle.std.proofs.Math.Nat.{mul-le-mul_right, pow-suc, pow-le-pow_right}
use Rattle.std.proofs.Common.{List, [], ◌∷◌, ◌++◌, map, length, take, get_or, replicate, length-take}
use Rattle.std.specs.Prelude.{◌&&◌}
use Rattle.std.specs.List.{list_all, prefix_len}
use Rattle.std.proofs.lemmas.Bool.{leb-false}
use Rattle.std.proofs.lemmas.Bool.Decides.{nat_tests}
use Rattle.std.specs.Int.Bits.{bit_and}
use Rattle.std.proofs.lemmas.List.{length-map, take_more}
use Rattle.std.proofs.lemmas.List.Folds.{list_all-append}
use Rattle.std.proofs.lemmas.List.Sums.{fold-append}
use Rattle.std.proofs.lemmas.Nat.{and_block, and_mask}
use Rattle.std.proofs.lemmas.Simd.{first_set_mask_l, mask_l-mod, splat_is_map, tops_compared, zip2_of_maps, zip2_splat}
use Rattle.cell_ascii_meaning.specs.EdgeNumbers.{is_digit, value_of_digits, value_if_digits}
use Rattle.cell_ascii_lanes.proofs.NumberLemmas.{zeros_value, length-zeros}
use Rattle.cell_ascii_lanes.proofs.ByteValueLemmas.{both}
use lib.Arith.{digits_div, digits_mod}
use lib.Count.{count_trailing_zeros}
use lib.Lanes.{Each1, number_l, mask_l, top, zip2}
use native.Mathlib.Nat.{mod-eq_of_lt}

-- ---- the three multiplications

-- the number of eight bytes, the lowest first
abbrev word_of : ℕ → ℕ → ℕ → ℕ → ℕ → ℕ → ℕ → ℕ → ℕ
word_of a b c d f g i j = a + 2 ^ 8 * b + 2 ^ 16 * c + 2 ^ 24 * d + 2 ^ 32 * f + 2 ^ 40 * g + 2 ^ 48 * i + 2 ^ 56 * j

abbrev low_bytes : ℕ → ℕ
low_bytes x = bit_and x 0x0000_00ff_0000_00ff

-- the mask keeps bytes 0 and 4 of a number
masked : (x : ℕ) → low_bytes x ≡ x / 2 ^ 32 % 256 * 2 ^ 32 + x % 2 ^ 32 % 256
masked x =
    let e : x ≡ x / 2 ^ 32 * 2 ^ 32 + x % 2 ^ 32 = omega arith in
    ap low_bytes e ∙ and_block 32 (x / 2 ^ 32) 255 (x % 2 ^ 32) 255 (omega arith) (omega arith)
    ∙ ap₂ (λ (a : ℕ) (b : ℕ). a * 2 ^ 32 + b) (and_mask (x / 2 ^ 32) 8) (and_mask (x % 2 ^ 32) 8)

abbrev of_pairs : ℕ → ℕ
of_pairs pairs =
    let first = low_bytes pairs * 4294967296000100 % 2 ^ 64 in
    let second = low_bytes (pairs / 65536) * 42949672960001 % 2 ^ 64 in
    (first + second) % 2 ^ 64 / 2 ^ 32

abbrev pub worth : ℕ → ℕ
worth word = of_pairs ((word * 10 % 2 ^ 64 + word / 256) % 2 ^ 64)

below : (x : ℕ) → x < 100 → x < 256
below x h = omega arith

first : (p r : ℕ) → p < 100 → r < 100
    → (r * 2 ^ 32 + p) * 4294967296000100 % 2 ^ 64 ≡ (p * 1000000 + r * 100) * 2 ^ 32 + p * 100
first p r P R = omega arith

second : (q s : ℕ) → q < 100 → s < 100 → (s * 2 ^ 32 + q) * 42949672960001 % 2 ^ 64 ≡ (q * 10000 + s) * 2 ^ 32 + q
second q s Q S = omega arith

last : (p q r s : ℕ) → p < 100 → q < 100 → r < 100 → s < 100
    → ((p * 1000000 + r * 100) * 2 ^ 32 + p * 100 + ((q * 10000 + s) * 2 ^ 32 + q)) % 2 ^ 64 / 2 ^ 32
    ≡ p * 1000000 + q * 10000 + r * 100 + s
last p q r s P Q R S =
    let sum = (p * 1000000 + r * 100) * 2 ^ 32 + p * 100 + ((q * 10000 + s) * 2 ^ 32 + q) in
    let small : sum < 2 ^ 64 = omega arith in
    let parts : sum ≡ (p * 1000000 + q * 10000 + r * 100 + s) * 2 ^ 32 + (p * 100 + q) = omega arith in
    let low : p * 100 + q < 2 ^ 32 = omega arith in
    ap (λ x. x / 2 ^ 32) (mod-eq_of_lt small ∙ parts) ∙ digits_div _ low

-- p, q, r and s are the four pairs of digits, and x, y, z and w are the bytes between them
combined : (p q r s x y z w pairs : ℕ) → p < 100 → q < 100 → r < 100 → s < 100 → x < 100 → y < 100 → z < 100 → w < 100
    → pairs ≡ word_of p x q y r z s w → of_pairs pairs ≡ p * 1000000 + q * 10000 + r * 100 + s
combined p q r s x y z w pairs P Q R S X Y Z W e =
    let high : pairs / 2 ^ 32 ≡ (z + 2 ^ 8 * s + 2 ^ 16 * w) * 256 + r = omega arith in
    let low : pairs % 2 ^ 32 ≡ (x + 2 ^ 8 * q + 2 ^ 16 * y) * 256 + p = omega arith in
    let down : pairs / 65536 ≡ (w * 256 + s) * 2 ^ 32 + ((y + 2 ^ 8 * r + 2 ^ 16 * z) * 256 + q) = omega arith in
    let a : pairs / 2 ^ 32 % 256 ≡ r = rw high (digits_mod _ (below r R)) in
    let b : pairs % 2 ^ 32 % 256 ≡ p = rw low (digits_mod _ (below p P)) in
    let part : (y + 2 ^ 8 * r + 2 ^ 16 * z) * 256 + q < 2 ^ 32 = omega arith in
    let c : pairs / 65536 / 2 ^ 32 % 256 ≡ s = rw (down, digits_div _ part) (digits_mod _ (below s S)) in
    let d : pairs / 65536 % 2 ^ 32 % 256 ≡ q = rw (down, digits_mod _ part) (digits_mod _ (below q Q)) in
    rw (masked pairs, masked (pairs / 65536), a, b, c, d, first p r P R, second q s Q S) (last p q r s P Q R S)

-- the three multiplications give the value of eight bytes that are the values of digits
eight_is : (a b c d f g i j word : ℕ) → a < 10 → b < 10 → c < 10 → d < 10 → f < 10 → g < 10 → i < 10 → j < 10
    → word ≡ word_of a b c d f g i j
    → worth word ≡ a * 10000000 + b * 1000000 + c * 100000 + d * 10000 + f * 1000 + g * 100 + i * 10 + j
eight_is a b c d f g i j word A B C D F G I J e =
    let rest = b + 256 * (c + 256 * (d + 256 * (f + 256 * (g + 256 * (i + 256 * (j + 256 * 0)))))) in
    let parts : word ≡ rest * 256 + a = omega arith in
    let small : a < 256 = omega arith in
    let shifted : word / 256 ≡ rest = ap (λ (x : ℕ). x / 256) parts ∙ digits_div rest small in
    let tens : word * 10 < 2 ^ 64 = omega arith in
    let sum : word * 10 + rest < 2 ^ 64 = omega arith in
    let pairs : (word * 10 % 2 ^ 64 + word / 256) % 2 ^ 64
    ≡ word_of (10 * a + b) (10 * b + c) (10 * c + d) (10 * d + f) (10 * f + g) (10 * g + i) (10 * i + j) (10 * j) =
    rw (mod-eq_of_lt tens, shifted, mod-eq_of_lt sum) (omega arith) in
    combined _ _ _ _ _ _ _ _ _ (omega arith) (omega arith) (omega arith) (omega arith)
    (omega arith) (omega arith) (omega arith) (omega arith) pairs ∙ omega arith

-- ---- the bytes of a word

abbrev pub nibbles : ℕ → ℕ
nibbles x = bit_and x 0x0f0f_0f0f_0f0f_0f0f

abbrev nibble : ℕ → ℕ
nibble x = bit_and x 15

-- the mask keeps the lower four bits of each byte
bytes_masked : (a b c d f g i j : ℕ) → a < 256 → b < 256 → c < 256 → d < 256 → f < 256 → g < 256 → i < 256 → j < 256
    → nibbles (word_of a b c d f g i j)
    ≡ word_of (nibble a) (nibble b) (nibble c) (nibble d) (nibble f) (nibble g) (nibble i) (nibble j)
bytes_masked a b c d f g i j A B C D F G I J =
    let n6 = j * 2 ^ 8 + i in
    let n5 = n6 * 2 ^ 8 + g in
    let n4 = n5 * 2 ^ 8 + f in
    let n3 = n4 * 2 ^ 8 + d in
    let n2 = n3 * 2 ^ 8 + c in
    let n1 = n2 * 2 ^ 8 + b in
    let all : word_of a b c d f g i j ≡ n1 * 2 ^ 8 + a = omega arith in
    let h6 : bit_and n6 0x0f0f ≡ nibble j * 2 ^ 8 + nibble i = and_block 8 j 15 i 15 I (omega arith) in
    let h5 : bit_and n5 0x0f_0f0f ≡ bit_and n6 0x0f0f * 2 ^ 8 + nibble g = and_block 8 n6 0x0f0f g 15 G (omega arith) in
    let h4 : bit_and n4 0x0f0f_0f0f ≡ bit_and n5 0x0f_0f0f * 2 ^ 8 + nibble f =
    and_block 8 n5 0x0f_0f0f f 15 F (omega arith) in
    let h3 : bit_and n3 0x0f_0f0f_0f0f ≡ bit_and n4 0x0f0f_0f0f * 2 ^ 8 + nibble d =
    and_block 8 n4 0x0f0f_0f0f d 15 D (omega arith) in
    let h2 : bit_and n2 0x0f0f_0f0f_0f0f ≡ bit_and n3 0x0f_0f0f_0f0f * 2 ^ 8 + nibble c =
    and_block 8 n3 0x0f_0f0f_0f0f c 15 C (omega arith) in
    let h1 : bit_and n1 0x0f_0f0f_0f0f_0f0f ≡ bit_and n2 0x0f0f_0f0f_0f0f * 2 ^ 8 + nibble b =
    and_block 8 n2 0x0f0f_0f0f_0f0f b 15 B (omega arith) in
    let h0 : nibbles (n1 * 2 ^ 8 + a) ≡ bit_and n1 0x0f_0f0f_0f0f_0f0f * 2 ^ 8 + nibble a =
    and_block 8 n1 0x0f_0f0f_0f0f_0f0f a 15 A (omega arith) in
    ap nibbles all ∙ h0 ∙ omega (arith, h1, h2, h3, h4, h5, h6)

-- a byte that is read as its distance from 48: a digit, or a leading 0
record Counts (x : ℕ) : Type 0 where
  byte : x < 256
  low : nibble x ≡ x - 48
  few : x - 48 < 10

digit_from : (x : ℕ) → is_digit x ≡ true → 48 ≤ x
digit_from x e = grind (arith, nat_tests)

digit_to : (x : ℕ) → is_digit x ≡ true → x ≤ 57
digit_to x e = grind (arith, nat_tests)

digits_count : (xs : List ℕ) → list_all is_digit xs ≡ true → Each1 Counts xs
digits_count [] e = tt
digits_count (x ∷ xs) e =
    let parts = both (is_digit x) (list_all is_digit xs) e in
    let least = digit_from x parts.0 in
    let most = digit_to x parts.0 in
    let is : x % 2 ^ 4 ≡ x - 48 = omega arith in
    (record { byte = omega arith; low = and_mask x 4 ∙ is; few = omega arith }, digits_count xs parts.1)

zeros_count : (k : ℕ) (xs : List ℕ) → Each1 Counts xs → Each1 Counts (replicate k 0 ++ xs)
zeros_count zero xs all = all
zeros_count (suc k) xs all = (record { byte = omega arith; low = refl; few = omega arith }, zeros_count k xs all)

eight_value : (xs : List ℕ) → length xs ≡ 8 → Each1 Counts xs → worth (nibbles (number_l 256 xs)) ≡ value_of_digits xs
eight_value [] e all = absurd (omega arith)
eight_value (a ∷ []) e all = absurd (omega arith)
eight_value (a ∷ b ∷ []) e all = absurd (omega arith)
eight_value (a ∷ b ∷ c ∷ []) e all = absurd (omega arith)
eight_value (a ∷ b ∷ c ∷ d ∷ []) e all = absurd (omega arith)
eight_value (a ∷ b ∷ c ∷ d ∷ f ∷ []) e all = absurd (omega arith)
eight_value (a ∷ b ∷ c ∷ d ∷ f ∷ g ∷ []) e all = absurd (omega arith)
eight_value (a ∷ b ∷ c ∷ d ∷ f ∷ g ∷ i ∷ []) e all = absurd (omega arith)
eight_value (a ∷ b ∷ c ∷ d ∷ f ∷ g ∷ i ∷ j ∷ k ∷ xs) e all = absurd (omega arith)
eight_value (a ∷ b ∷ c ∷ d ∷ f ∷ g ∷ i ∷ j ∷ []) e (A, (B, (C, (D, (F, (G, (I, (J, none)))))))) =
    let word = number_l 256 (a ∷ b ∷ c ∷ d ∷ f ∷ g ∷ i ∷ j ∷ []) in
    let all : word ≡ word_of a b c d f g i j = omega arith in
    let m = bytes_masked a b c d f g i j A.byte B.byte C.byte D.byte F.byte G.byte I.byte J.byte in
    let is : nibbles word ≡ word_of (a - 48) (b - 48) (c - 48) (d - 48) (f - 48) (g - 48) (i - 48) (j - 48) =
    ap nibbles all ∙ m ∙ omega (arith, A.low, B.low, C.low, D.low, F.low, G.low, I.low, J.low) in
    eight_is (a - 48) (b - 48) (c - 48) (d - 48) (f - 48) (g - 48) (i - 48) (j - 48) _
    A.few B.few C.few D.few F.few G.few I.few J.few is ∙ omega arith

-- the three multiplications give the value of digits that were moved to the upper end of eight bytes
pub front_value : (size : ℕ) (bs : List ℕ) → size ≤ 8 → size ≤ length bs → list_all is_digit (take size bs) ≡ true
    → worth (nibbles (number_l 256 (replicate (8 - size) 0 ++ take size bs))) ≡ value_of_digits (take size bs)
front_value size bs few within digits =
    let word = take size bs in
    let all = replicate (8 - size) 0 ++ word in
    let long : length all ≡ 8 = omega (arith, length-zeros (8 - size) word, length-take size bs) in
    eight_value all long (zeros_count (8 - size) word (digits_count word digits)) ∙ zeros_value (8 - size) word

-- the first `size` of eight bytes, moved to the upper end of a number
abbrev moved : ℕ → List ℕ → ℕ
moved size bs = number_l 256 (take 8 bs) % 18446744073709551616 * 2 ^ (64 - 8 * size) % 18446744073709551616

module _ (a b c d f g i j : ℕ) (rest : List ℕ) where
  abbrev bytes : List ℕ
  bytes = a ∷ b ∷ c ∷ d ∷ f ∷ g ∷ i ∷ j ∷ rest

  moved_is : (size : ℕ) → a < 256 → b < 256 → c < 256 → d < 256 → f < 256 → g < 256 → i < 256 → j < 256
      → 0 < size → size ≤ 8 → moved size bytes ≡ number_l 256 (replicate (8 - size) 0 ++ take size bytes)
  moved_is zero A B C D F G I J some few = absurd (omega arith)
  moved_is (suc zero) A B C D F G I J some few = omega arith
  moved_is (suc (suc zero)) A B C D F G I J some few = omega arith
  moved_is (suc (suc (suc zero))) A B C D F G I J some few = omega arith
  moved_is (suc (suc (suc (suc zero)))) A B C D F G I J some few = omega arith
  moved_is (suc (suc (suc (suc (suc zero))))) A B C D F G I J some few = omega arith
  moved_is (suc (suc (suc (suc (suc (suc zero)))))) A B C D F G I J some few = omega arith
  moved_is (suc (suc (suc (suc (suc (suc (suc zero))))))) A B C D F G I J some few = omega arith
  moved_is (suc (suc (suc (suc (suc (suc (suc (suc zero)))))))) A B C D F G I J some few = omega arith
  moved_is (suc (suc (suc (suc (suc (suc (suc (suc (suc size))))))))) A B C D F G I J some few = absurd (omega arith)

pub moved_bytes : (size : ℕ) (bs : List ℕ) → 0 < size → size ≤ 8 → 8 ≤ length bs → ((k : ℕ) → get_or bs k 0 < 256)
    → moved size bs ≡ number_l 256 (replicate (8 - size) 0 ++ take size bs)
moved_bytes size [] some few buffered byte = absurd (omega arith)
moved_bytes size (a ∷ []) some few buffered byte = absurd (omega arith)
moved_bytes size (a ∷ b ∷ []) some few buffered byte = absurd (omega arith)
moved_bytes size (a ∷ b ∷ c ∷ []) some few buffered byte = absurd (omega arith)
moved_bytes size (a ∷ b ∷ c ∷ d ∷ []) some few buffered byte = absurd (omega arith)
moved_bytes size (a ∷ b ∷ c ∷ d ∷ f ∷ []) some few buffered byte = absurd (omega arith)
moved_bytes size (a ∷ b ∷ c ∷ d ∷ f ∷ g ∷ []) some few buffered byte = absurd (omega arith)
moved_bytes size (a ∷ b ∷ c ∷ d ∷ f ∷ g ∷ i ∷ []) some few buffered byte = absurd (omega arith)
moved_bytes size (a ∷ b ∷ c ∷ d ∷ f ∷ g ∷ i ∷ j ∷ rest) some few buffered byte =
    moved_is a b c d f g i j rest size
    (byte 0) (byte 1) (byte 2) (byte 3) (byte 4) (byte 5) (byte 6) (byte 7) some few

-- ---- bytes that are digits

abbrev less : ℕ → ℕ → ℕ
less a b = (a + (256 - b)) % 256

abbrev is_other : ℕ → Bool
is_other x = leb 10 (less x 48)

digit_here : (x : ℕ) → x < 256 → is_other x ≡ false → is_digit x ≡ true
digit_here x byte e =
    let few : (x + 208) % 256 < 10 = omega (arith, leb-false 10 (less x 48) e) in
    let least : 48 ≤ x = omega arith in
    let most : x ≤ 57 = omega arith in
    grind (arith, nat_tests)

-- the number of bytes before the first byte that is not a digit, at most m
abbrev digits_within : ℕ → List ℕ → ℕ
digits_within m xs = prefix_len (λ x. not (is_other x)) (take m xs)

-- bytes before the first byte that is not a digit are digits
digits_front : (n m : ℕ) (xs : List ℕ) → ((k : ℕ) → get_or xs k 0 < 256) → n ≤ digits_within m xs
    → list_all is_digit (take n xs) ≡ true
digits_front zero m xs byte few = refl
digits_front (suc n) zero xs byte few = absurd (omega arith)
digits_front (suc n) (suc m) [] byte few = absurd (omega arith)
digits_front (suc n) (suc m) (x ∷ xs) byte few = by (is_other x) refl few (digits_front n m xs (λ k. byte (suc k)))
  where
    by : (b : Bool) → is_other x ≡ b → suc n ≤ cond (not b) (1 + digits_within m xs) 0
        → (n ≤ digits_within m xs → list_all is_digit (take n xs) ≡ true)
        → list_all is_digit (take (suc n) (x ∷ xs)) ≡ true
    by true e few rest = absurd (omega arith)
    by false e few rest = rw (digit_here x (byte 0) e) (rest (omega arith))

abbrev others : List ℕ → ℕ
others bs =
    let values = zip2 less (take 8 bs) (replicate 8 48) in
    mask_l (map (top 7) (zip2 (λ a b. cond (leb a b) 255 0) (replicate 8 10) values)) % 2 ^ 64

others_is : (bs : List ℕ) → length (take 8 bs) ≡ 8 → others bs ≡ mask_l (map is_other (take 8 bs))
others_is bs long =
    let front = take 8 bs in
    let values = zip2_splat less front 8 48 long in
    let tests = zip2_of_maps leb (λ _. 10) (λ x. less x 48) front (splat_is_map front 8 10 long) values in
    let few : length (map is_other front) ≤ 64 = omega (arith, length-map front is_other, long) in
    let tops = tops_compared w8 leb (replicate 8 10) (zip2 less front (replicate 8 48)) in
    ap (λ (l : List Bool). mask_l l % 2 ^ 64) (tops ∙ tests) ∙ mask_l-mod (map is_other front) 64 few

at_least : (b : Bool) (n z : ℕ) → n ≤ 8 → n ≤ z → n ≤ cond b 8 z
at_least true n z few more = few
at_least false n z few more = more

-- the bytes before the lowest set bit are digits
pub digits_ahead : (bs : List ℕ) → 8 ≤ length bs → ((k : ℕ) → get_or bs k 0 < 256) → (n : ℕ) → n ≤ 8
    → n ≤ count_trailing_zeros 64 (others bs) → list_all is_digit (take n bs) ≡ true
digits_ahead bs buffered byte n few more =
    let front = take 8 bs in
    let long : length front ≡ 8 = omega (arith, length-take 8 bs) in
    let mask = mask_l (map is_other front) in
    let there : n ≤ count_trailing_zeros 64 mask = rw (others_is bs long) at more in
    let all = at_least (eqb mask 0) n (count_trailing_zeros 64 mask) few there in
    digits_front n 8 bs byte (rw (first_set_mask_l is_other front 8 long (omega arith)) at all)

-- ---- nine digits

some_value : (word : List ℕ) → 0 < length word → list_all is_digit word ≡ true
    → value_if_digits word ≡ Some (value_of_digits word)
some_value [] some digits = absurd (omega arith)
some_value (b ∷ word) some digits = rw digits refl

pub nine_digits : (bs : List ℕ) → 9 ≤ length bs → list_all is_digit (take 8 bs) ≡ true → is_digit (get_or bs 8 0) ≡ true
    → value_if_digits (take 9 bs) ≡ Some (value_of_digits (take 8 bs) * 10 + (get_or bs 8 0 - 48))
nine_digits bs buffered front here =
    let last = get_or bs 8 0 in
    let all : take 9 bs ≡ take 8 bs ++ last ∷ [] = take_more bs 8 0 (omega arith) in
    let each : (list_all is_digit (take 8 bs) && list_all is_digit (last ∷ [])) ≡ true = rw (front, here) refl in
    let digits = ap (list_all is_digit) all ∙ list_all-append is_digit (take 8 bs) (last ∷ []) ∙ each in
    let value = ap value_of_digits all ∙ fold-append (λ (n : ℕ) (b : ℕ). n * 10 + (b - 48)) 0 (take 8 bs) (last ∷ []) in
    some_value (take 9 bs) (omega (arith, length-take 9 bs)) digits ∙ ap (λ (n : ℕ). Some n) value

-- ---- the values of few digits

abbrev next : ℕ → ℕ → ℕ
next n b = n * 10 + (b - 48)

-- one more digit keeps the value below ten times its bound
one_more : (a d p : ℕ) → d ≤ 9 → (a * 10 + d + 1) * p ≤ (a + 1) * (p * 10)
one_more a d p h = omega (arith, mul-le-mul_right p h)

fold_below : (a : ℕ) (bs : List ℕ) → list_all is_digit bs ≡ true → fold next a bs < (a + 1) * 10 ^ length bs
fold_below a [] e = omega arith
fold_below a (b ∷ bs) e =
    let parts = both (is_digit b) (list_all is_digit bs) e in
    let most : b - 48 ≤ 9 = omega (arith, digit_to b parts.0) in
    let rest : fold next (a * 10 + (b - 48)) bs < (a * 10 + (b - 48) + 1) * 10 ^ length bs = fold_below
    (a * 10 + (b - 48)) bs parts.1 in
    let grows = one_more a (b - 48) (10 ^ length bs) most in
    let power : 10 ^ length (b ∷ bs) ≡ 10 ^ length bs * 10 = pow-suc 10 (length bs) in
    rw power (omega (arith, rest, grows))

-- at most eight digits have a value below 100,000,000
pub few_below : (bs : List ℕ) → list_all is_digit bs ≡ true → length bs ≤ 8 → value_of_digits bs < 100000000
few_below bs e l = let more : 10 ^ length bs ≤ 10 ^ 8 = pow-le-pow_right (omega arith) l in omega
    (arith, fold_below 0 bs e, more)

-- ---- bytes that a number contains

-- two lists of the same length are the same bytes if they are the same number
pub same_bytes : (xs ys : List ℕ) → length xs ≡ length ys → ((k : ℕ) → get_or xs k 0 < 256)
    → ((k : ℕ) → get_or ys k 0 < 256)
    → number_l 256 xs ≡ number_l 256 ys → xs ≡ ys
same_bytes [] [] e low lower is = refl
same_bytes [] (y ∷ ys) e low lower is = absurd (omega arith)
same_bytes (x ∷ xs) [] e low lower is = absurd (omega arith)
same_bytes (x ∷ xs) (y ∷ ys) e low lower is =
    let here : x ≡ y = omega (arith, is, low 0, lower 0) in
    let there : number_l 256 xs ≡ number_l 256 ys = omega (arith, is, low 0, lower 0) in
    ap₂ (λ (a : ℕ) (l : List ℕ). a ∷ l) here
    (same_bytes xs ys (omega arith) (λ k. low (suc k)) (λ k. lower (suc k)) there)

-- a key spells one word of its size
pub same_word : (size : ℕ) (text word : List ℕ) → size ≤ 8 → length text ≡ size → length word ≡ size
    → ((k : ℕ) → get_or text k 0 < 256) → ((k : ℕ) → get_or word k 0 < 256)
    → number_l 256 (replicate (8 - size) 0 ++ text) ≡ number_l 256 (replicate (8 - size) 0 ++ word) → text ≡ word
same_word size text word few a b low lower is = after (8 - size) is
  where
    after : (n : ℕ) → number_l 256 (replicate n 0 ++ text) ≡ number_l 256 (replicate n 0 ++ word) → text ≡ word
    after zero is = same_bytes text word (a ∙ sym b) low lower is
    after (suc n) is = after n (omega (arith, is))
