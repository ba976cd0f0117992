-- Whole numbers and coordinates in decimal (r.in.ascii manual; the limits on digits are our own).
use Rattle.std.specs.Prelude.{ℕ, ℤ, Bool, pos, negsuc, ◌+◌, ◌-◌, ◌*◌, ◌^◌, nat_le, ◌&&◌, ◌==◌, List, length, Option, Some, None, if◌then◌else◌, codes}
use Rattle.std.specs.List.{list_all, before_first, after_first}
use Rattle.std.specs.Option.{option_map}
use Rattle.cell_core_values.specs.Letters.{byte}
pub use Rattle.cell_core_values.specs.Digits.{is_digit, value_of_digits, value_if_digits}
pub use Rattle.cell_core_values.specs.WholeNumbers.{number_with_optional_sign, whole_number_of_text}
pub use Rattle.cell_core_values.specs.WholeNumbers.{is_in_category_range}
pub use Rattle.cell_core_values.specs.WholeNumbers.{whole_number_in_category_range}

-- a decimal number in units of 10^-8: at most ten digits before the point, at most eight after it, at least one in all
abbrev pub decimal_in_coordinate_units : List ℕ → List ℕ → Option ℕ
decimal_in_coordinate_units whole part =
    if (list_all is_digit whole && list_all is_digit part) && ((nat_le (length whole) 10 && nat_le (length part) 8) && nat_le 1 (length whole + length part))
    then Some (value_of_digits whole * 100000000 + value_of_digits part * 10 ^ (8 - length part)) else None

-- the byte is a decimal point
abbrev pub is_decimal_point : ℕ → Bool
is_decimal_point b = b == byte (codes ".")

-- digits, and optionally a point with more digits, in units of 10^-8
abbrev pub unsigned_coordinate_of_text : List ℕ → Option ℕ
unsigned_coordinate_of_text bs = decimal_in_coordinate_units (before_first is_decimal_point bs)
    (after_first is_decimal_point bs)

-- an optional sign, then digits, and optionally a point with more digits
abbrev pub coordinate_of_text : List ℕ → Option ℤ
coordinate_of_text bs = number_with_optional_sign unsigned_coordinate_of_text bs

-- a number of rows or columns: a whole number in range, with 0 for negative ones
abbrev pub row_or_column_count_of_text : List ℕ → Option ℕ
row_or_column_count_of_text bs = option_map not_negative (whole_number_in_category_range bs)
  where
    not_negative : ℤ → ℕ
    not_negative (pos n) = n
    not_negative (negsuc n) = 0
