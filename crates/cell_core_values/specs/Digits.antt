-- Decimal digits and their values.
use Rattle.std.specs.Prelude.{ℕ, ◌+◌, ◌-◌, ◌*◌, Bool, nat_le, ◌&&◌, List, [], ◌∷◌, fold, Option, Some, None, if◌then◌else◌, codes}
use Rattle.std.specs.List.{list_all}
use Rattle.cell_core_values.specs.Letters.{byte}

-- the byte is a decimal digit
abbrev pub is_digit : ℕ → Bool
is_digit b = nat_le (byte (codes "0")) b && nat_le b (byte (codes "9"))

-- the value of decimal digits
abbrev pub value_of_digits : List ℕ → ℕ
value_of_digits bs = fold (λ n b. n * 10 + (b - byte (codes "0"))) 0 bs

-- the value of one or more digits, or `None` for other texts
abbrev pub value_if_digits : List ℕ → Option ℕ
value_if_digits [] = None
value_if_digits (b ∷ bs) = if list_all is_digit (b ∷ bs) then Some (value_of_digits (b ∷ bs)) else None
