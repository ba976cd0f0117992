-- Whole numbers, and their range for categories (GRASS: CELL values; accepting leading zeros and a plus sign is our own
-- choice).
use Rattle.std.specs.Prelude.{ℕ, ℤ, pos, neg_ℤ, int_le, Bool, ◌&&◌, ◌==◌, List, [], ◌∷◌, Option, Some, None, Result, Ok, Err, if◌then◌else◌, codes}
use Rattle.std.specs.Option.{option_map}
use Rattle.cell_core_values.specs.Letters.{byte}
use Rattle.cell_core_values.specs.Digits.{value_if_digits}
use Rattle.cell_core_values.specs.declared.whole_numbers.TheConstants.{LEAST_CATEGORY, GREATEST}
use Rattle.cell_core_values.specs.declared.whole_numbers.WholeNumberFault.{WholeNumberFault}
use Rattle.cell_core_values.specs.declared.whole_numbers.WholeNumberFault.TheVariants.{NotWhole, OutOfRange}

-- an optional sign followed by a number that `unsigned` reads
abbrev pub number_with_optional_sign : (List ℕ → Option ℕ) → List ℕ → Option ℤ
number_with_optional_sign unsigned [] = None
number_with_optional_sign unsigned (b ∷ bs) =
    if b == byte (codes "-") then option_map (λ n. neg_ℤ (pos n)) (unsigned bs)
    else (if b == byte (codes "+") then option_map pos (unsigned bs) else option_map pos (unsigned (b ∷ bs)))

-- the number spelled by an optional sign and one or more digits
abbrev pub whole_number_of_text : List ℕ → Option ℤ
whole_number_of_text bs = number_with_optional_sign value_if_digits bs

-- the number is between -2147483647 and 2147483647
abbrev pub is_in_category_range : ℤ → Bool
is_in_category_range n = int_le LEAST_CATEGORY n && int_le n GREATEST

-- the whole number in range that a text spells, or why there is none
abbrev pub read_whole_number : List ℕ → Result ℤ WholeNumberFault
read_whole_number bs = within (whole_number_of_text bs)
  where
    within : Option ℤ → Result ℤ WholeNumberFault
    within None = Err NotWhole
    within (Some n) = if is_in_category_range n then Ok n else Err OutOfRange

-- the whole number in range that a text spells
abbrev pub whole_number_in_category_range : List ℕ → Option ℤ
whole_number_in_category_range bs = within (whole_number_of_text bs)
  where
    within : Option ℤ → Option ℤ
    within None = None
    within (Some n) = if is_in_category_range n then Some n else None
