-- Names of maps (profile), and lists of names.
use Rattle.std.specs.Prelude.{ℕ, Bool, false, ◌&&◌, ◌||◌, ◌==◌, ◌≢◌, nat_le, List, [], ◌∷◌, length, Option, AllPairs, bytes_eq, codes}
use Rattle.std.specs.List.{list_all, position_from}
use Rattle.cell_core_values.specs.Letters.{byte}

-- the maximum length of a name in bytes (profile)
abbrev pub most_name_bytes : ℕ
most_name_bytes = 64

-- the byte is between low and high
abbrev pub is_byte_between : ℕ → ℕ → ℕ → Bool
is_byte_between low high b = nat_le low b && nat_le b high

-- the byte is an ASCII letter or an underscore
abbrev pub is_name_start : ℕ → Bool
is_name_start b = (is_byte_between (byte (codes "A")) (byte (codes "Z")) b || is_byte_between (byte (codes "a"))
    (byte (codes "z")) b) || b == byte (codes "_")

-- the byte is an ASCII letter, a digit, an underscore or a point
abbrev pub is_name_byte : ℕ → Bool
is_name_byte b = (is_name_start b || is_byte_between (byte (codes "0")) (byte (codes "9")) b) || b == byte (codes ".")

-- the first byte may start a name
abbrev pub starts_like_name : List ℕ → Bool
starts_like_name [] = false
starts_like_name (b ∷ bs) = is_name_start b

-- the text is a name: 1 to 64 bytes, first a letter or an underscore, then letters, digits, underscores and points
abbrev pub is_name : List ℕ → Bool
is_name bs = starts_like_name bs && (list_all is_name_byte bs && nat_le (length bs) most_name_bytes)

-- the first index of a name in a list of names
abbrev pub place_of_name : List ℕ → List (List ℕ) → Option ℕ
place_of_name name names = position_from (λ n. bytes_eq n name) 0 names

-- no name occurs twice
abbrev pub AreDistinctNames : List (List ℕ) → Type 0
AreDistinctNames names = AllPairs (λ a b. a ≢ b) names
