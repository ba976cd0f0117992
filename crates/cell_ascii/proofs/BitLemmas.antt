-- Blanks and line feeds as bits, and words as numbers.
use Rattle.std.proofs.Common.{◌≡◌, ℕ, zero, suc, ◌+◌, ◌-◌, ◌*◌, ◌/◌, ◌%◌, ◌^◌, ◌<◌, ◌≤◌, ◌++◌, replicate, cond, Bool, true, false, not, List, [], ◌∷◌, map, length, take, drop, get_or, refl, ap, ap₂, sym, ◌∙◌, arith, length-take}
use Rattle.std.specs.List.{prefix_len, list_all}
use Rattle.std.specs.Int.RustNames.{count_ones}
use Rattle.std.proofs.lemmas.Simd.{trailing_mask_l, ones-mask_l}
use Rattle.std.proofs.lemmas.Nat.{and_block, field_of, shl-shr}
use Rattle.std.proofs.lemmas.List.{length-map, take-map, take-take, drop-take, get_or-take}
use Rattle.std.specs.Int.Bits.{bit_and, and_self}
pub use Rattle.cell_ascii_lanes.proofs.ByteBitLemmas.{bit, turned, mask-take, below}
use Rattle.cell_ascii_meaning.specs.GridTokens.{is_line_feed, is_space, is_word_byte, line_feed_count}
use Rattle.cell_ascii_writer.proofs.ByteLemmas.{digits-mod, digits-number}
use Rattle.cell_ascii_lanes.proofs.DigitLemmas.{moved_bytes}
use Rattle.cell_ascii.specs.TableWords.{blanks, feeds, flags_with_first_cleared, top_bytes_of_number}
use lib.Count.{count_trailing_zeros}
use lib.Lanes.{mask_l, number_l, digits_l}

-- the number of leading false lanes
abbrev pub unset : List Bool → ℕ
unset ms = prefix_len (λ m. not m) ms

some_set : (ms : List Bool) → 0 < mask_l ms → unset ms < length ms
some_set [] some = absurd (omega arith)
some_set (true ∷ ms) some = omega arith
some_set (false ∷ ms) some = let rest : 0 < mask_l ms = omega arith in omega (arith, some_set ms rest)

-- and-ing a mask with the mask minus 1 clears its lowest set bit
without_lowest : (ms : List Bool) → 0 < mask_l ms → bit_and (mask_l ms) (mask_l ms - 1) ≡ mask_l (flags_with_first_cleared (unset ms + 1) ms)
without_lowest [] some = absurd (omega arith)
without_lowest (true ∷ ms) some =
    let m = mask_l ms in
    let one : 1 + 2 * m ≡ m * 2 ^ 1 + 1 = omega arith in
    let less : 1 + 2 * m - 1 ≡ m * 2 ^ 1 + 0 = omega arith in
    let same : m * 2 ^ 1 + 0 ≡ 0 + 2 * m = omega arith in
    ap₂ bit_and one less ∙ and_block 1 m m 1 0 (omega arith) (omega arith) ∙ ap (λ (k : ℕ). k * 2 ^ 1 + 0) (and_self m) ∙ same
without_lowest (false ∷ ms) some =
    let m = mask_l ms in
    let rest : 0 < m = omega arith in
    let all : 0 + 2 * m ≡ m * 2 ^ 1 + 0 = omega arith in
    let less : 0 + 2 * m - 1 ≡ (m - 1) * 2 ^ 1 + 1 = omega arith in
    let count : 1 + unset ms + 1 ≡ suc (unset ms + 1) = omega arith in
    let same : mask_l (flags_with_first_cleared (unset ms + 1) ms) * 2 ^ 1 + 0 ≡ 0 + 2 * mask_l (flags_with_first_cleared (unset ms + 1) ms) = omega arith in
    ap₂ bit_and all less ∙ and_block 1 m (m - 1) 0 1 (omega arith) (omega arith) ∙ ap (λ (k : ℕ). k * 2 ^ 1 + 0) (without_lowest ms rest)
    ∙ same ∙ ap (λ (k : ℕ). mask_l (flags_with_first_cleared k (false ∷ ms))) (sym count)

length-cleared : (n : ℕ) (ms : List Bool) → length (flags_with_first_cleared n ms) ≡ length ms
length-cleared zero ms = refl
length-cleared (suc n) [] = refl
length-cleared (suc n) (m ∷ ms) = ap suc (length-cleared n ms)

cleared-cleared : (n m : ℕ) (ms : List Bool) → m ≤ n → flags_with_first_cleared n (flags_with_first_cleared m ms)
    ≡ flags_with_first_cleared n ms
cleared-cleared n zero ms le = refl
cleared-cleared zero (suc m) ms le = absurd (omega arith)
cleared-cleared (suc n) (suc m) [] le = refl
cleared-cleared (suc n) (suc m) (x ∷ ms) le = ap (λ (l : List Bool). false ∷ l) (cleared-cleared n m ms (omega arith))

pub itself : (ms : List Bool) → map (λ m. m) ms ≡ ms
itself [] = refl
itself (m ∷ ms) = ap (λ (l : List Bool). m ∷ l) (itself ms)

record NextBlank (xs : List ℕ) (at k : ℕ) : Type 0 where
  pub behind : at ≤ k
  pub word : list_all is_word_byte (take (k - at) (drop at xs)) ≡ true
  pub blank : is_space (get_or xs k 0) ≡ true

-- the first set lane from index `at` on marks the next blank
next_blank : (xs : List ℕ) (at : ℕ) → unset (flags_with_first_cleared at (map is_space xs)) < length xs → NextBlank xs at (unset (flags_with_first_cleared at (map is_space xs)))
next_blank [] zero l = absurd (omega arith)
next_blank [] (suc at) l = absurd (omega arith)
next_blank (x ∷ xs) zero l = by (is_space x) refl l (next_blank xs zero)
  where
    by : (s : Bool) → is_space x ≡ s → cond (not s) (1 + unset (map is_space xs)) 0 < suc (length xs) → (unset (map is_space xs) < length xs → NextBlank xs zero (unset (map is_space xs)))
        → NextBlank (x ∷ xs) zero (cond (not s) (1 + unset (map is_space xs)) 0)
    by true e l on = record { behind = omega arith; word = refl; blank = e }
    by false e l on =
        let k = unset (map is_space xs) in
        let is = on (omega arith) in
        let one : 1 + k ≡ suc k = omega arith in
        let none : k - 0 ≡ k = omega arith in
        let word : list_all is_word_byte (take k xs) ≡ true = ap (λ (n : ℕ). list_all is_word_byte (take n xs)) (sym none) ∙ is.word in
        let both : list_all is_word_byte (x ∷ take k xs) ≡ true = rw e word in
        let all : suc k - 0 ≡ suc k = omega arith in
        let front : list_all is_word_byte (take (suc k - 0) (x ∷ xs)) ≡ true = ap (λ (n : ℕ). list_all is_word_byte (take n (x ∷ xs))) all ∙ both in
        rw one (record { behind = omega arith; word = front; blank = is.blank })
next_blank (x ∷ xs) (suc at) l =
    let k = unset (flags_with_first_cleared at (map is_space xs)) in
    let is = next_blank xs at (omega arith) in
    let one : 1 + k ≡ suc k = omega arith in
    let less : suc k - suc at ≡ k - at = omega arith in
    let word : list_all is_word_byte (take (suc k - suc at) (drop at xs)) ≡ true = ap (λ (n : ℕ). list_all is_word_byte (take n (drop at xs))) less ∙ is.word in
    rw one (record { behind = omega (arith, is.behind); word = word; blank = is.blank })

module _ (bs : List ℕ) (buffered : 64 ≤ length bs) (at : ℕ) where
  abbrev ends : ℕ
  ends = mask_l (flags_with_first_cleared at (blanks bs))

  wide : length (take 64 bs) ≡ 64
  wide = omega (arith, length-take 64 bs)

  size : length (flags_with_first_cleared at (blanks bs)) ≡ 64
  size = length-cleared at (blanks bs) ∙ length-map (take 64 bs) is_space ∙ wide

  lowest : 0 < ends → count_trailing_zeros 64 ends ≡ unset (flags_with_first_cleared at (blanks bs))
  lowest some =
      let same = itself (flags_with_first_cleared at (blanks bs)) in
      let set : 0 < mask_l (map (λ m. m) (flags_with_first_cleared at (blanks bs))) = omega
      (arith, some, ap mask_l same) in
      let few : length (flags_with_first_cleared at (blanks bs)) ≤ 64 = omega (arith, size) in
      ap (λ (k : ℕ). count_trailing_zeros 64 k) (sym (ap mask_l same)) ∙ trailing_mask_l (λ (m : Bool). m) 64 (flags_with_first_cleared at (blanks bs)) few set

  inside : 0 < ends → unset (flags_with_first_cleared at (blanks bs)) < 64
  inside some = omega (arith, some_set (flags_with_first_cleared at (blanks bs)) some, size)

  -- the lowest set bit marks the next blank from the place on
  blank_ahead : 0 < ends → (count_trailing_zeros 64 ends < 64) × NextBlank (take 64 bs) at (count_trailing_zeros 64 ends)
  blank_ahead some =
      let k = unset (flags_with_first_cleared at (blanks bs)) in
      let within : k < length (take 64 bs) = omega (arith, inside some, wide) in
      rw (lowest some) (inside some, next_blank (take 64 bs) at within)

  -- the other set bits mark the blanks after the next blank
  next_ends : 0 < ends → bit_and ends (ends - 1) ≡ mask_l (flags_with_first_cleared (count_trailing_zeros 64 ends + 1)
      (blanks bs))
  next_ends some =
      let k = unset (flags_with_first_cleared at (blanks bs)) in
      let ahead = (next_blank (take 64 bs) at (omega (arith, inside some, wide))).behind in
      let le : at ≤ k + 1 = omega (arith, ahead) in
      without_lowest (flags_with_first_cleared at (blanks bs)) some
      ∙ ap mask_l (cleared-cleared (k + 1) at (blanks bs) le)
      ∙ ap (λ (n : ℕ). mask_l (flags_with_first_cleared (n + 1) (blanks bs))) (sym (lowest some))

-- the lowest set bit of `ends` marks the first byte from `at` on that ends a word
pub record NextEnd (bs : List ℕ) (at ends : ℕ) : Type 0 where
  pub behind : at ≤ count_trailing_zeros 64 ends
  pub few : count_trailing_zeros 64 ends < 64
  pub word : list_all is_word_byte (take (count_trailing_zeros 64 ends - at) (drop at bs)) ≡ true
  pub blank : is_space (get_or bs (count_trailing_zeros 64 ends) 0) ≡ true
  pub next : bit_and ends (ends - 1) ≡ mask_l (flags_with_first_cleared (count_trailing_zeros 64 ends + 1) (blanks bs))

pub next_end : (bs : List ℕ) (at e : ℕ) → 64 ≤ length bs → 0 < e → e ≡ mask_l (flags_with_first_cleared at (blanks bs))
    → NextEnd bs at e
next_end bs at e buffered some is =
    let set : 0 < mask_l (flags_with_first_cleared at (blanks bs)) = omega (arith, is, some) in
    let k = count_trailing_zeros 64 (mask_l (flags_with_first_cleared at (blanks bs))) in
    let ahead = blank_ahead bs buffered at set in
    let within : at ≤ 64 = omega (arith, ahead.0, ahead.1.behind) in
    let all : 64 ≡ at + (64 - at) = omega arith in
    let less : k - at ≤ 64 - at = omega (arith, ahead.0) in
    let front : take (k - at) (drop at (take 64 bs)) ≡ take (k - at) (drop at bs) =
    ap (λ (n : ℕ). take (k - at) (drop at (take n bs))) all ∙ ap (take (k - at)) (drop-take at (64 - at) bs) ∙ take-take (k - at) (64 - at) (drop at bs) less in
    rw is (record {
      behind = ahead.1.behind;
      few = ahead.0;
      word = ap (list_all is_word_byte) (sym front) ∙ ahead.1.word;
      blank = ap is_space (sym (get_or-take 64 bs k 0 ahead.0)) ∙ ahead.1.blank;
      next = next_ends bs buffered at set;
    })

-- the line feeds among the first n bytes are the set bits below n
pub feeds_before : (n : ℕ) (bs : List ℕ) → n ≤ 64 → count_ones (mask_l (feeds bs) % 2 ^ n) ≡ line_feed_count (take n bs)
feeds_before n bs few =
    ap count_ones (mask-take n (feeds bs) ∙ ap mask_l (take-map is_line_feed n (take 64 bs) ∙ ap (map is_line_feed) (take-take n 64 bs few)))
    ∙ ones-mask_l is_line_feed (take n bs)

-- a number shifted to the upper end keeps its first `size` bytes
pub kept : (bytes : List ℕ) (size : ℕ) → 0 < size → size ≤ 8 → 8 ≤ length bytes → ((k : ℕ) → get_or bytes k 0 < 256)
    → top_bytes_of_number (number_l 256 (take 8 bytes) % 18446744073709551616 * 2 ^ (64 - 8 * size) % 18446744073709551616) size ≡ take size bytes
kept bytes size some few buffered below =
    let k = 64 - 8 * size in
    let n = number_l 256 (take 8 bytes) in
    let all : 64 ≡ 8 * size + k = omega arith in
    ap (digits_l 256 size)
    (ap (λ (j : ℕ). n % 2 ^ 64 * 2 ^ k % 2 ^ j / 2 ^ k) all
    ∙ field_of (n % 2 ^ 64 * 2 ^ k) (8 * size) k
    ∙ ap (λ (m : ℕ). m % 2 ^ (8 * size)) (shl-shr (n % 2 ^ 64) k))
    ∙ digits-mod size size (n % 2 ^ 64) (omega arith)
    ∙ digits-mod size 8 n few
    ∙ digits-number size 8 bytes few buffered (λ k _. below k)

-- a key contains the first `size` bytes
pub key_kept : (bytes : List ℕ) (size key : ℕ) → 0 < size → size ≤ 8 → 8 ≤ length bytes → ((k : ℕ) → get_or bytes k 0 < 256)
    → key ≡ number_l 256 (replicate (8 - size) 0 ++ take size bytes) → top_bytes_of_number key size ≡ take size bytes
key_kept bytes size key some few buffered below is =
    ap (λ n. top_bytes_of_number n size) (is ∙ sym (moved_bytes size bytes some few buffered below)) ∙ kept bytes size some few buffered below
