-- Lanes of bytes: masks, tables, and sums.
use Rattle.std.proofs.Common.{◌≡◌, ℕ, zero, suc, ◌+◌, ◌-◌, ◌*◌, ◌/◌, ◌%◌, ◌^◌, ◌<◌, ◌≤◌, ltb, leb, eqb, cond, Bool, true, false, not, T, min, List, [], ◌∷◌, ◌++◌, map, length, take, set, get_or, replicate, length-take, refl, sym, ap, ap₂, ◌∙◌, arith, w8, Fits}
use Rattle.std.specs.Prelude.{◌&&◌}
use Rattle.std.proofs.lemmas.Simd.{swz_l, mask_l-mod, bit_mask_l, pick_l_left}
use Rattle.std.proofs.lemmas.List.{length-map, get_or-take, get_or-map, map-append, take-append-le, take_more_set}
use Rattle.std.proofs.Math.Seq.{take-append-add}
use Rattle.cell_core_values.specs.SmallCells.{cell_of_stored_byte, cells_of_bytes}
use Rattle.std.proofs.lemmas.List.FromFn.{get_or-range_with_len, get_or-map-range_with_len}
use Rattle.std.proofs.lemmas.Nat.Bits.{bit_at-zero}
use Rattle.std.specs.List.{range_with_len}
use Rattle.cell_core_values.specs.Digits.{is_digit}
use Rattle.cell_ascii_meaning.specs.GridTokens.{is_space}
use Rattle.std.proofs.lemmas.Nat.{and_mask}
use Rattle.std.proofs.lemmas.Bool.{eqb-true, eqb-false, lt-leb}
use Rattle.std.proofs.lemmas.Bool.Decides.{nat_tests}
use Rattle.cell_ascii_lanes.specs.parts.LaneTables.{IsSixteenEntryTableFourTimes, table_place_of_byte, capped_sum}
use Rattle.cell_ascii_lanes.specs.parts.LaneTables.{place_of_lane_before}
use lib.Bits.{bit_and}
use lib.Lanes.{zip2, mask_l, top, sel_l, pick_l, Each1}

-- ---- a mask that is computed lane by lane agrees with a predicate at each of the 256 bytes

abbrev pub under : ℕ → ℕ → ℕ
under a b = cond (ltb a b) 255 0

abbrev pub less : ℕ → ℕ → ℕ
less a b = (a + (256 - b)) % 256

abbrev pub same : Bool → Bool → Bool
same true b = b
same false b = not b

same_is : (a b : Bool) → T (same a b) → a ≡ b
same_is true true h = refl
same_is false false h = refl
same_is true false h = absurd h
same_is false true h = absurd h

abbrev pub upto : (ℕ → Bool) → ℕ → Bool
upto p zero = true
upto p (suc n) = p n && upto p n

both : (a b : Bool) → T (a && b) → T a × T b
both true b h = (tt, h)
both false b h = absurd h

pub upto_sound : (p : ℕ → Bool) (n : ℕ) → T (upto p n) → (i : ℕ) → i < n → T (p i)
upto_sound p zero h i lt = absurd (omega arith)
upto_sound p (suc n) h i lt = go (upto_sound p n (both (p n) (upto p n) h).1 i) (eqb i n) refl
  where
    go : (i < n → T (p i)) → (b : Bool) → eqb i n ≡ b → T (p i)
    go below true e = rw (eqb-true i n e) (both (p n) (upto p n) h).0
    go below false e = below (omega (arith, eqb-false i n e))

pub each_byte : (f : ℕ → ℕ) (p : ℕ → Bool) → T (upto (λ x. same (top 7 (f x)) (p x)) 256) → (v : List ℕ) → Each1 (Fits w8) v → map (top 7) (map f v) ≡ map p v
each_byte f p all [] fits = refl
each_byte f p all (x ∷ xs) fits = ap₂ (λ a b. a ∷ b) (same_is _ _ (upto_sound (λ y. same (top 7 (f y)) (p y)) 256 all x fits.0.fits)) (each_byte f p all xs fits.1)

-- ---- tables

-- a lookup at the positions js gives the table's lanes at js
pub table_at : (f : ℕ → ℕ) (table : List ℕ) (i : ℕ) (js : List ℕ) → IsSixteenEntryTableFourTimes f table → i + length js ≤ 64 → Each1 (λ j. j < 16) js
    → swz_l w8 16 (take 64 table) i js ≡ map f js
table_at f table i [] is few low = refl
table_at f table i (j ∷ js) is few low =
    let below : j < 128 = omega (arith, low.0) in
    let no : leb 128 j ≡ false = lt-leb 128 j below in
    let block : i / 16 < 4 = omega arith in
    let inside : 16 * (i / 16) + j < 64 = omega (arith, low.0) in
    let here : cond (leb 128 j) 0 (get_or (take 64 table) (16 * (i / 16) + j) 0) ≡ f j = rw no (get_or-take 64 table (16 * (i / 16) + j) 0 inside ∙ is (i / 16) j block low.0) in
    ap₂ (λ (a : ℕ) (l : List ℕ). a ∷ l) here (table_at f table (suc i) js is (omega arith) low.1)

-- ---- distances from 48, at most 15

distance : (x : ℕ) → cond (top 7 (under (less x 48) 15)) (less x 48) 15 ≡ table_place_of_byte x
distance x = by (ltb (less x 48) 15) refl
  where
    by : (b : Bool) → ltb (less x 48) 15 ≡ b → cond (top 7 (cond b 255 0)) (less x 48) 15 ≡ min (less x 48) 15
    by true e = grind (arith, nat_tests)
    by false e = grind (arith, nat_tests)

pub distances : (xs : List ℕ) → sel_l (map (top 7) (zip2 under (zip2 less xs (replicate (length xs) 48)) (replicate (length xs) 15))) (zip2 less xs (replicate (length xs) 48)) (replicate (length xs) 15) ≡ map table_place_of_byte xs
distances [] = refl
distances (x ∷ xs) = ap₂ (λ (a : ℕ) (l : List ℕ). a ∷ l) (distance x) (distances xs)

pub small_place : (xs : List ℕ) (k : ℕ) → get_or (map table_place_of_byte xs) k 0 < 16
small_place [] k = omega arith
small_place (x ∷ xs) zero = omega arith
small_place (x ∷ xs) (suc k) = small_place xs k

-- the table of a function's 16 values, repeated four times
abbrev table_of : (ℕ → ℕ) → List ℕ
table_of f = map (λ k. f (k % 16)) (range_with_len 0 64)

pub table_is : (f : ℕ → ℕ) → IsSixteenEntryTableFourTimes f (table_of f)
table_is f = λ b j few low.
    let k = 16 * b + j in
    let rest : k % 16 ≡ j = omega arith in
    get_or-map-range_with_len (λ k. f (k % 16)) 0 64 k k 0 (omega arith) (omega arith) ∙ ap f rest

-- a lookup gives the function's value at the byte's table index
pub looked : (f : ℕ → ℕ) (bytes : List ℕ) (p : ℕ) → p < length bytes → get_or (map f (map table_place_of_byte bytes)) p 0 ≡ f (table_place_of_byte (get_or bytes p 0))
looked f bytes p within =
    let inside : p < length (map table_place_of_byte bytes) = omega (arith, length-map bytes table_place_of_byte) in
    get_or-map f (map table_place_of_byte bytes) p 0 0 inside ∙ ap f (get_or-map table_place_of_byte bytes p 0 0 within)

-- ---- blanks and line feeds, looked up with the low four bits of bytes

abbrev pub low_bits : ℕ → ℕ
low_bits b = bit_and b 15

abbrev pub space_at : ℕ → ℕ
space_at j = cond (eqb j 0) 32 (cond (is_space j) j 0)

pub small_low : (xs : List ℕ) (k : ℕ) → get_or (map low_bits xs) k 0 < 16
small_low [] k = omega arith
small_low (x ∷ xs) zero = omega (arith, and_mask x 4)
small_low (x ∷ xs) (suc k) = small_low xs k

abbrev pub alike : ℕ → ℕ → ℕ
alike a b = cond (eqb a b) 255 0

abbrev is_found : ℕ → Bool
is_found b = top 7 (alike (space_at (low_bits b)) b)

space_bool : (x : ℕ) → x < 256 → is_found x ≡ is_space x
space_bool x lt = same_is _ _ (upto_sound (λ y. same (is_found y) (is_space y)) 256 tt x lt)

pub spaces_are : (xs : List ℕ) → Each1 (Fits w8) xs
    → map (top 7) (zip2 alike (map space_at (map low_bits xs)) xs) ≡ map is_space xs
spaces_are [] f = refl
spaces_are (x ∷ xs) f =
    ap₂ (λ (a : Bool) (l : List Bool). a ∷ l) (space_bool x f.0.fits) (spaces_are xs f.1)

-- ---- sums, at most 255

one_sum : (a b : ℕ) → a < 256 → b < 256 → (a + cond (top 7 (under b (255 - a))) b (255 - a)) % 256 ≡ capped_sum a b
one_sum a b A B = by (ltb b (255 - a)) refl
  where
    by : (t : Bool) → ltb b (255 - a) ≡ t → (a + cond (top 7 (cond t 255 0)) b (255 - a)) % 256 ≡ min (a + b) 255
    by true e = let less : b < 255 - a = grind (arith, nat_tests) in omega arith
    by false e = let more : 255 - a ≤ b = grind (arith, nat_tests) in omega arith

abbrev wrapped : ℕ → ℕ → ℕ
wrapped a b = (a + b) % 256

abbrev turned : List ℕ → List ℕ
turned xs = map (λ a. 255 - a) xs

pub sums_are : (xs ys : List ℕ) → length xs ≡ length ys → Each1 (Fits w8) xs → Each1 (Fits w8) ys
    → zip2 wrapped xs (sel_l (map (top 7) (zip2 under ys (turned xs))) ys (turned xs)) ≡ zip2 capped_sum xs ys
sums_are [] ys e f g = refl
sums_are (x ∷ xs) [] e f g = absurd (omega arith)
sums_are (x ∷ xs) (y ∷ ys) e f g = ap₂ (λ (a : ℕ) (l : List ℕ). a ∷ l) (one_sum x y f.0.fits g.0.fits) (sums_are xs ys (omega arith) f.1 g.1)

-- ---- lanes moved by one place

abbrev round : List ℕ
round = 63 ∷ range_with_len 0 63

round_at : (p : ℕ) → p < 64 → get_or round p 0 ≡ place_of_lane_before p
round_at zero lt = refl
round_at (suc p) lt = let same : (suc p + 63) % 64 ≡ 0 + p = omega arith in get_or-range_with_len 0 63 p 0 (omega arith) ∙ sym same

pub moved : (v : List ℕ) (p : ℕ) → length v ≡ 64 → p < 64 → get_or (pick_l 0 (v ++ v) round) p 0 ≡ get_or v (place_of_lane_before p) 0
moved v p long lt =
    ap (λ l. get_or l p 0) (pick_l_left 0 v v 64 round long tt)
    ∙ get_or-map (λ k. get_or v k 0) round p 0 0 lt ∙ ap (λ k. get_or v k 0) (round_at p lt)

-- ---- lanes of a mask that has no set bit

pub none_at : (ms : List Bool) (p : ℕ) → length ms ≤ 64 → mask_l ms % 2 ^ 64 ≡ 0 → get_or ms p false ≡ false
none_at ms p few none = by (get_or ms p false) (sym (bit_mask_l ms p) ∙ ap (λ n. n / 2 ^ p % 2) (sym (mask_l-mod ms 64 few) ∙ none) ∙ bit_at-zero p)
  where
    by : (b : Bool) → ◌≡◌ {A = ℕ} (cond b 1 0) 0 → b ≡ false
    by true e = absurd (omega arith)
    by false e = refl

both_tops : (p q : Bool) → top 7 (bit_and (cond p 255 0) (cond q 255 0)) ≡ (p && q)
both_tops true true = refl
both_tops true false = refl
both_tops false true = refl
both_tops false false = refl

digit_bool : (x : ℕ) → x < 256 → ltb (table_place_of_byte x) 10 ≡ is_digit x
digit_bool x lt = same_is _ _ (upto_sound (λ y. same (ltb (table_place_of_byte y) 10) (is_digit y)) 256 tt x lt)

abbrev pub digit_large : ℕ → ℕ → Bool
digit_large x y = is_digit x && eqb y 255

pub large_lanes : (xs ys : List ℕ) → length xs ≡ length ys → Each1 (Fits w8) xs
    → map (top 7) (zip2 bit_and (map (λ a. under (table_place_of_byte a) 10) xs) (map (λ a. cond (eqb a 255) 255 0) ys)) ≡ zip2 digit_large xs ys
large_lanes [] ys e f = refl
large_lanes (x ∷ xs) [] e f = absurd (omega arith)
large_lanes (x ∷ xs) (y ∷ ys) e f =
    ap₂ (λ (a : Bool) (l : List Bool). a ∷ l)
    (both_tops (ltb (table_place_of_byte x) 10) (eqb y 255) ∙ ap (λ b. b && eqb y 255) (digit_bool x f.0.fits)) (large_lanes xs ys (omega arith) f.1)

pub not_large : (x y : ℕ) → y < 256 → digit_large x y ≡ false → is_digit x ≡ true → y < 255
not_large x y lt e digit = by (eqb y 255) refl (sym (ap (λ b. b && eqb y 255) digit) ∙ e)
  where
    by : (b : Bool) → eqb y 255 ≡ b → (true && eqb y 255) ≡ false → y < 255
    by true e o = cc
    by false e o = let no = eqb-false y 255 e in omega (arith, no)

-- ---- rows of bytes

-- k more bytes of a row were read into its lent part
pub more_bytes : (i k : ℕ) (row part after : List ℕ) → i ≤ length row → k ≤ length part → take (i + k) (take i row ++ (part ++ after)) ≡ take i row ++ take k part
more_bytes i k row part after within few =
    let size : length (take i row) ≡ i = omega (arith, length-take i row) in
    ap (λ (n : ℕ). take (n + k) (take i row ++ (part ++ after))) (sym size)
    ∙ take-append-add (take i row) (part ++ after) k
    ∙ ap (λ (l : List ℕ). take i row ++ l) (take-append-le k part after few)

-- the k more bytes denote k more cells
pub more_byte_cells : (i k : ℕ) (row part after : List ℕ) → i ≤ length row → k ≤ length part
    → cells_of_bytes (take (i + k) (take i row ++ (part ++ after))) ≡ cells_of_bytes (take i row) ++ cells_of_bytes (take k part)
more_byte_cells i k row part after within few = ap cells_of_bytes (more_bytes i k row part after within few) ∙ map-append cell_of_stored_byte (take i row) (take k part)

-- setting the next byte of a row adds its cell
pub byte_set : (i : ℕ) (row : List ℕ) (b : ℕ) → i < length row → cells_of_bytes (take (i + 1) (set row i b)) ≡ cells_of_bytes (take i row) ++ cell_of_stored_byte b ∷ []
byte_set i row b lt = ap cells_of_bytes (take_more_set row i b lt) ∙ map-append cell_of_stored_byte (take i row) (b
    ∷ [])
