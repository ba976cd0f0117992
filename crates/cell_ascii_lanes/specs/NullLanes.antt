-- Null words among numbers of at most three digits in a block of 64 bytes, given the bits of blanks and of digits.
use Rattle.std.specs.Prelude.{ℕ, ◌+◌, ◌-◌, ◌≡◌, ◌≢◌, ◌<◌, ◌≤◌, Bool, true, false, List, ◌++◌, length, take, drop}
use Rattle.std.specs.Prelude.{replicate, slice_index_or}
use Rattle.std.specs.List.{list_all}
use Rattle.std.specs.Int.{bit_at}
use Rattle.std.specs.Simd.Lanes.{number_l}
use Rattle.cell_ascii_meaning.specs.GridTokens.{is_word_byte}
use Rattle.cell_core_values.specs.Digits.{is_digit, value_of_digits}

-- the bits mark the first bytes of the words that do not begin with a digit
pub record AreOtherStarts (blanks digits starts : ℕ) : Type 0 where
  pub first : bit_at starts 0 ≡ 0
  pub each : (i : ℕ) → i + 1 < 64 → bit_at blanks i ≡ 1 → bit_at blanks (i + 1) ≡ 0 → bit_at digits (i + 1) ≡ 0
      → bit_at starts (i + 1) ≡ 1
  pub only : (i : ℕ) → i + 1 < 64 → bit_at starts (i + 1) ≡ 1
      → (bit_at blanks i ≡ 1) × ((bit_at blanks (i + 1) ≡ 0) × (bit_at digits (i + 1) ≡ 0))

-- a number begins after this byte
pub record BeginsNumber (blanks digits i : ℕ) : Type 0 where
  pub blank : bit_at blanks i ≡ 1
  pub digit : bit_at digits (i + 1) ≡ 1

-- a blank comes first and at the marked bytes, and each word that begins with a digit is a number of at most three
-- digits
pub record AreShortNumbers (blanks digits marked : ℕ) : Type 0 where
  pub first : bit_at blanks 0 ≡ 1
  pub behind : (i : ℕ) → i < 64 → bit_at marked i ≡ 1 → bit_at blanks i ≡ 1
  pub second : (i : ℕ) → i + 2 < 64 → BeginsNumber blanks digits i → bit_at blanks (i + 2) ≡ 0
      → bit_at digits (i + 2) ≡ 1
  pub third : (i : ℕ) → i + 3 < 64 → BeginsNumber blanks digits i → bit_at blanks (i + 2) ≡ 0
      → bit_at blanks (i + 3) ≡ 0 → bit_at digits (i + 3) ≡ 1
  pub few : (i : ℕ) → i + 4 < 64 → BeginsNumber blanks digits i → bit_at blanks (i + 2) ≡ 0
      → bit_at blanks (i + 3) ≡ 0 → bit_at blanks (i + 4) ≡ 1

-- no number has a third digit
abbrev pub AreTwoDigits : ℕ → ℕ → Type 0
AreTwoDigits blanks digits = (i : ℕ) → i + 3 < 64 → BeginsNumber blanks digits i → bit_at blanks (i + 2) ≡ 0
    → bit_at blanks (i + 3) ≡ 1

-- each number's value is stored at its last digit, unless the byte after it is marked
abbrev pub AreNumberValues : List ℕ → ℕ → ℕ → Bool → List ℕ → Type 0
AreNumberValues bytes blanks marked has_three values = (at n : ℕ) → n < 3 → at + 1 + n + 1 < 64
    → (has_three ≡ false → n < 2) → is_digit (slice_index_or bytes at 0) ≡ false
    → list_all is_digit (take (n + 1) (drop (at + 1) bytes)) ≡ true
    → bit_at blanks (at + 1 + n) ≡ 0 → bit_at blanks (at + 1 + n + 1) ≡ 1 → bit_at marked (at + 1 + n + 1) ≡ 0
    → (slice_index_or values (at + 1 + n) 0 ≡ value_of_digits (take (n + 1) (drop (at + 1) bytes)))
    × (slice_index_or values (at + 1 + n) 0 < 255)

-- the key and the size of a null text without blanks, unless the size is 0
pub record IsNullKey (text : List ℕ) (key size : ℕ) : Type 0 where
  pub few : size ≤ 8
  pub long : 0 < size → length text ≡ size
  pub spelled : 0 < size → key ≡ number_l 256 (replicate (8 - size) 0 ++ text)
  pub bytes : (k : ℕ) → slice_index_or text k 0 < 256
  pub word : 0 < size → list_all is_word_byte text ≡ true

-- the text with this key begins at each of the bytes in `starts`, and 255 is stored at its last byte
abbrev pub AreNulls : ℕ → ℕ → ℕ → List ℕ → List ℕ → Type 0
AreNulls starts key size bytes lanes = (p : ℕ) → p < 64 → bit_at starts p ≡ 1
    → (key ≡ number_l 256 (replicate (8 - size) 0 ++ take size (drop p bytes)))
    × (slice_index_or lanes (p + (size - 1)) 0 ≡ 255)

-- the lane is not at the last byte of a word of this size that begins in `starts`
abbrev pub IsOtherLane : ℕ → ℕ → ℕ → Type 0
IsOtherLane starts size q = (p : ℕ) → p < 64 → bit_at starts p ≡ 1 → p + (size - 1) ≢ q
