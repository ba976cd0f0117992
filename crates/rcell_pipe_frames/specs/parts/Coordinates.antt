-- The parts of a coordinate.
use Rattle.std.specs.Prelude.{ℕ, ℤ, pos, negsuc, List, [], codes}

-- the sign, if it is negative
abbrev pub minus_sign_or_empty : ℤ → List ℕ
minus_sign_or_empty (pos n) = []
minus_sign_or_empty (negsuc n) = codes "-"
