-- A sum over bytes, by how many times each byte occurs.
use Rattle.std.proofs.Common.{◌≡◌, ℕ, zero, suc, ◌+◌, ◌*◌, ◌<◌, ◌≤◌, List, [], ◌∷◌, length, drop, map}
use Rattle.std.proofs.Common.{get_or, set, sum_by, Bool, true, false, cond, refl, ap, sym, ◌∙◌, arith, add-zero}
use Rattle.std.proofs.lemmas.List.{drop_more}
use Rattle.std.proofs.lemmas.List.Sums.{sum_by-cons}
use Rattle.cell_core_values.specs.SmallCells.{cell_of_stored_byte, cells_of_bytes}
use Rattle.cell_stats_combinations.specs.declared.skip.Skip.{Skip}
use Rattle.cell_stats_combinations.specs.Combinations.{Combination}
use Rattle.cell_stats_combinations.specs.LeftOut.{kept_cells, combination_is_left_out}
use Rattle.cell_stats_counts.specs.Counts.{cell_count_of_combination}
use Rattle.cell_stats_counts.specs.parts.Alone.{combination_of_one_cell}
use Rattle.cell_stats_counts.specs.parts.ByteCounts.{count_added_by_byte_cell, sum_over_counted_bytes}
use Rattle.cell_stats_combinations.specs.parts.Same.{are_same_combination}
use Rattle.cell_stats_counts.proofs.CountLemmas.{count-both, count-stretch}

-- when a byte occurs once more, its value is added to the sum
pub sum_over_counted_bytes-more : (f : ℕ → ℕ) (byte i d : ℕ) (counts : List ℕ) → i < length counts
    → sum_over_counted_bytes f byte (set counts i (get_or counts i d + 1))
    ≡ sum_over_counted_bytes f byte counts + f (byte + i)
sum_over_counted_bytes-more f byte i d [] within = absurd (omega (arith, within))
sum_over_counted_bytes-more f byte zero d (n ∷ counts) within =
    let here : f (byte + 0) ≡ f byte = ap f (add-zero byte) in
    let once : f byte * (n + 1) ≡ f byte * n + f byte = omega arith in
    omega (arith, here, once)
sum_over_counted_bytes-more f byte (suc i) d (n ∷ counts) within =
    let place : byte + 1 + i ≡ byte + suc i = omega arith in
    let on = sum_over_counted_bytes-more f (byte + 1) i d counts (omega (arith, within)) in
    omega (arith, on, ap f place)

-- the count of one byte is at most the count of all bytes
pub counted-le : (byte i : ℕ) (counts : List ℕ) → get_or counts i 0 ≤ sum_over_counted_bytes (λ b. 1) byte counts
counted-le byte i [] = omega arith
counted-le byte zero (n ∷ counts) = omega arith
counted-le byte (suc i) (n ∷ counts) = omega (arith, counted-le (byte + 1) i counts)

-- the sum from a byte on is that byte's share and the sum after it
pub sum_over_counted_bytes-first : (f : ℕ → ℕ) (byte n : ℕ) (counts : List ℕ) → byte < length counts
    → n ≡ get_or counts byte 0
    → sum_over_counted_bytes f byte (drop byte counts) ≡ f byte * n + sum_over_counted_bytes f (byte + 1)
    (drop (byte + 1) counts)
sum_over_counted_bytes-first f byte n counts within is =
    ap (sum_over_counted_bytes f byte) (drop_more counts byte 0 within)
    ∙ ap (λ m. f byte * m + sum_over_counted_bytes f (byte + 1) (drop (byte + 1) counts)) (sym is)

pub cells-sum : (skip : Skip) (k : Combination) (bytes : List ℕ)
    → cell_count_of_combination k (kept_cells skip (map combination_of_one_cell (cells_of_bytes bytes)))
    ≡ sum_by (count_added_by_byte_cell skip k) bytes
cells-sum skip k [] = refl
cells-sum skip k (byte ∷ bytes) =
    count-both skip k (combination_of_one_cell (cell_of_stored_byte byte)
    ∷ []) (map combination_of_one_cell (cells_of_bytes bytes))
    ∙ ap (λ m. count_added_by_byte_cell skip k byte + m) (cells-sum skip k bytes)
    ∙ sym (sum_by-cons (count_added_by_byte_cell skip k) byte bytes)

pub length-sum : (bytes : List ℕ) → length bytes ≡ sum_by (λ b. 1) bytes
length-sum [] = refl
length-sum (byte ∷ bytes) = omega (arith, length-sum bytes, sum_by-cons (λ b. 1) byte bytes)

times-cond : (b : Bool) (n : ℕ) → cond b 1 0 * n ≡ cond b n 0
times-cond true n = omega arith
times-cond false n = omega arith

module _ (skip : Skip) (k : Combination) (byte n : ℕ) (counts : List ℕ) (within : byte < length counts)
    (is : n ≡ get_or counts byte 0) where
  -- a byte whose cells are left out, or that has no cells, adds nothing
  pub byte-left : (now all : ℕ) → combination_is_left_out skip (combination_of_one_cell (cell_of_stored_byte byte))
      ≡ true
      → now + sum_over_counted_bytes (count_added_by_byte_cell skip k) byte (drop byte counts) ≡ all
      → now + sum_over_counted_bytes (count_added_by_byte_cell skip k) (byte + 1) (drop (byte + 1) counts) ≡ all
  byte-left now all left e =
      let first = sum_over_counted_bytes-first (count_added_by_byte_cell skip k) byte n counts within is in
      let none : count_added_by_byte_cell skip k byte ≡ 0 = count-stretch skip k
      (combination_of_one_cell (cell_of_stored_byte byte)) 1 true left in
      let nothing : count_added_by_byte_cell skip k byte * n ≡ 0 = ap (λ m. m * n) none ∙ omega arith in
      omega (arith, e, first, nothing)

  pub byte-none : (now all : ℕ) → n ≡ 0
      → now + sum_over_counted_bytes (count_added_by_byte_cell skip k) byte (drop byte counts) ≡ all
      → now + sum_over_counted_bytes (count_added_by_byte_cell skip k) (byte + 1) (drop (byte + 1) counts) ≡ all
  byte-none now all zero_times e =
      let first = sum_over_counted_bytes-first (count_added_by_byte_cell skip k) byte n counts within is in
      let nothing : count_added_by_byte_cell skip k byte * n ≡ 0 = ap
      (λ m. count_added_by_byte_cell skip k byte * m) zero_times ∙ omega arith in
      omega (arith, e, first, nothing)

  -- a byte whose cells are kept adds its count
  pub byte-more : (now new all : ℕ) → combination_is_left_out skip
      (combination_of_one_cell (cell_of_stored_byte byte)) ≡ false
      → new ≡ now + cond (are_same_combination k (combination_of_one_cell (cell_of_stored_byte byte))) n 0
      → now + sum_over_counted_bytes (count_added_by_byte_cell skip k) byte (drop byte counts) ≡ all
      → new + sum_over_counted_bytes (count_added_by_byte_cell skip k) (byte + 1) (drop (byte + 1) counts) ≡ all
  byte-more now new all kept grown e =
      let first = sum_over_counted_bytes-first (count_added_by_byte_cell skip k) byte n counts within is in
      let one = count-stretch skip k (combination_of_one_cell (cell_of_stored_byte byte)) 1 false kept in
      let same = are_same_combination k (combination_of_one_cell (cell_of_stored_byte byte)) in
      let all_of : count_added_by_byte_cell skip k byte * n ≡ cond same n 0 = ap (λ m. m * n) one ∙ times-cond same n in
      omega (arith, e, first, all_of, grown)

  ones-first : sum_over_counted_bytes (λ b. 1) byte (drop byte counts)
      ≡ n + sum_over_counted_bytes (λ b. 1) (byte + 1) (drop (byte + 1) counts)
  ones-first = omega (arith, sum_over_counted_bytes-first (λ b. 1) byte n counts within is)

  cond-le : (b : Bool) → cond b n 0 ≤ n
  cond-le true = omega arith
  cond-le false = omega arith

  -- after a byte, the rest of the sum still fits
  pub room-on : (now most : ℕ) → now + sum_over_counted_bytes (λ b. 1) byte (drop byte counts) < most
      → now + sum_over_counted_bytes (λ b. 1) (byte + 1) (drop (byte + 1) counts) < most
  room-on now most h = omega (arith, h, ones-first)

  pub room-grown : (now new most : ℕ) → new ≡ now + cond (are_same_combination k
      (combination_of_one_cell (cell_of_stored_byte byte))) n 0
      → now + sum_over_counted_bytes (λ b. 1) byte (drop byte counts) < most
      → new + sum_over_counted_bytes (λ b. 1) (byte + 1) (drop (byte + 1) counts) < most
  room-grown now new most grown h = omega (
    arith,
    h,
    ones-first,
    grown,
    cond-le
        (are_same_combination k (combination_of_one_cell (cell_of_stored_byte byte))),
  )
