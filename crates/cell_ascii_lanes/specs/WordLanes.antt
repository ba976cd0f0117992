-- Short words in a block of 64 bytes, stored as bytes.
use Rattle.std.specs.Prelude.{ℕ, ◌+◌, ◌%◌, ◌^◌, ◌≡◌, ◌<◌, ◌≤◌, Bool, true, false, ◌==◌, List, [], ◌∷◌, take, drop, slice_index_or, codes}
use Rattle.std.specs.List.{list_all}
use Rattle.std.specs.Int.{bit_at}
use Rattle.std.specs.Int.RustNames.{count_ones}
use Rattle.cell_core_values.specs.Letters.{byte}
use Rattle.cell_core_values.specs.Digits.{is_digit, value_of_digits}

-- the byte is `*`, the default null text
abbrev pub is_null_star : ℕ → Bool
is_null_star b = b == byte (codes "*")

-- the items whose flags are set
abbrev pub flagged_items : List Bool → List ℕ → List ℕ
flagged_items [] xs = []
flagged_items (m ∷ ms) [] = []
flagged_items (true ∷ ms) (x ∷ xs) = x ∷ flagged_items ms xs
flagged_items (false ∷ ms) (x ∷ xs) = flagged_items ms xs

-- each number's value is stored at its last digit
abbrev pub AreWordValuesAtLastDigits : List ℕ → List ℕ → Type 0
AreWordValuesAtLastDigits bytes values = (at n : ℕ) → n < 3 → at + 1 + n < 64
    → is_digit (slice_index_or bytes at 0) ≡ false
    → list_all is_digit (take (n + 1) (drop (at + 1) bytes)) ≡ true
    → (slice_index_or values (at + 1 + n) 0 ≡ value_of_digits (take (n + 1) (drop (at + 1) bytes)))
    × (slice_index_or values (at + 1 + n) 0 < 255)

-- all words are stars or numbers of at most three digits, and a blank comes first, given the bits of word bytes, digits
-- and stars
pub record AreStarsOrThreeDigitNumbers (words digits stars : ℕ) : Type 0 where
  pub first : bit_at words 0 ≡ 0
  pub known : (i : ℕ) → i < 64 → bit_at words i ≡ 1 → bit_at digits i ≡ 0 → bit_at stars i ≡ 1
  pub before : (i : ℕ) → i + 1 < 64 → bit_at stars (i + 1) ≡ 1 → bit_at words i ≡ 0
  pub behind : (i : ℕ) → bit_at stars i ≡ 1 → bit_at words (i + 1) ≡ 0
  pub few : (i : ℕ) → i + 3 < 64 → bit_at words i ≡ 1 → bit_at words (i + 1) ≡ 1 → bit_at words (i + 2) ≡ 1 → bit_at words (i + 3) ≡ 0

-- `result` consists of the bits below a position, at most `most` of which are set
pub record AreLowBitsUpToSetBitCount (bits most result : ℕ) : Type 0 where
  pub place : ℕ
  pub within : place ≤ 64
  pub is : result ≡ bits % 2 ^ place
  pub few : count_ones result ≤ most
