-- Tables of the contributions of bytes to the values of words.
use Rattle.std.specs.Prelude.{ℕ, ◌+◌, ◌*◌, ◌%◌, ◌≡◌, ◌<◌, List, slice_index_or, min, bit_and, nat_lt, if◌then◌else◌}

-- a table of 16 entries, repeated four times
abbrev pub IsSixteenEntryTableFourTimes : (ℕ → ℕ) → List ℕ → Type 0
IsSixteenEntryTableFourTimes f table = (b j : ℕ) → b < 4 → j < 16 → slice_index_or table (16 * b + j) 0 ≡ f j

-- the table index of a byte: its value minus 48, at most 15
abbrev pub table_place_of_byte : ℕ → ℕ
table_place_of_byte b = min ((b + 208) % 256) 15

-- the index of the previous lane, modulo 64
abbrev pub place_of_lane_before : ℕ → ℕ
place_of_lane_before p = (p + 63) % 64

-- the contribution of a digit as the last digit of a word, as the second to last, and as the third to last; and all
-- bits set for a digit
abbrev pub ones_digit_value : ℕ → ℕ
ones_digit_value j = if nat_lt j 10 then j else 0

abbrev pub tens_digit_value : ℕ → ℕ
tens_digit_value j = if nat_lt j 10 then 10 * j else 0

abbrev pub hundreds_digit_value : ℕ → ℕ
hundreds_digit_value j = if nat_lt j 10 then min (100 * j) 255 else 0

abbrev pub lane_mask_of_digit : ℕ → ℕ
lane_mask_of_digit j = if nat_lt j 10 then 255 else 0

-- a sum of two bytes, capped at 255
abbrev pub capped_sum : ℕ → ℕ → ℕ
capped_sum a b = min (a + b) 255

-- the table index of the byte at position p
abbrev pub table_place_of_byte_at_position : List ℕ → ℕ → ℕ
table_place_of_byte_at_position bytes p = table_place_of_byte (slice_index_or bytes p 0)

-- the contribution of the byte at position p and the byte before it
abbrev pub two_digit_value_at_position : List ℕ → ℕ → ℕ
two_digit_value_at_position bytes p = capped_sum (tens_digit_value (table_place_of_byte_at_position bytes p)) (bit_and (lane_mask_of_digit (table_place_of_byte_at_position bytes p)) (hundreds_digit_value (table_place_of_byte_at_position bytes (place_of_lane_before p))))
