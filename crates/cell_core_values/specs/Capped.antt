-- Numbers as they are computed: capped at 10^18, which is out of every range.
use Rattle.std.specs.Prelude.{ℕ, ℤ, min, List, Option}
use Rattle.std.specs.Option.{option_map}
use Rattle.cell_core_values.specs.Digits.{value_if_digits}
use Rattle.cell_core_values.specs.WholeNumbers.{number_with_optional_sign}

-- the number, capped at 10^18
abbrev pub capped_at_10_to_18 : ℕ → ℕ
capped_at_10_to_18 n = min n 1000000000000000000

-- the value of one or more digits, capped at 10^18
abbrev pub capped_value_of_digits : List ℕ → Option ℕ
capped_value_of_digits bs = option_map capped_at_10_to_18 (value_if_digits bs)

-- the value of an optional sign and one or more digits, capped at -10^18 and 10^18
abbrev pub capped_whole_number_of_text : List ℕ → Option ℤ
capped_whole_number_of_text bs = number_with_optional_sign capped_value_of_digits bs
