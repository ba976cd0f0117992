-- The parts of a grid text, in the order in which they are written.
use Rattle.std.proofs.Common.{◌≡◌, ◌≢◌, ℕ, ℤ, pos, negsuc, ◌+◌, ◌≤◌, ◌==◌, true, false, [], ◌∷◌, ◌++◌, drop, decimal, unsigned_abs, refl, arith}
use Rattle.std.specs.Prelude.{int_lt}
use Rattle.std.proofs.lemmas.Bool.Decides.{nat_tests}
use Rattle.cell_ascii_meaning.specs.Writing.{coordinate_text, fraction_text, unsigned_coordinate_text}
use Rattle.cell_ascii_meaning.specs.Writing.{digits_without_trailing_zeros}

pub fraction_text-some : (part : ℕ) → part ≢ 0 → fraction_text part ≡ (46 ∷ []) ++ digits_without_trailing_zeros (drop 1 (decimal (100000000 + part)))
fraction_text-some part some = let t : (part == 0) ≡ false = grind (arith, nat_tests) in rw t

pub coordinate_text-negative : (z : ℤ) → int_lt z (pos 0) ≡ true → coordinate_text z ≡ (45 ∷ []) ++ unsigned_coordinate_text (unsigned_abs z)
coordinate_text-negative (pos n) below = absurd (grind (arith, nat_tests))
coordinate_text-negative (negsuc n) below = refl

pub coordinate_text-positive : (z : ℤ) → int_lt z (pos 0) ≡ false
    → coordinate_text z ≡ unsigned_coordinate_text (unsigned_abs z)
coordinate_text-positive (pos n) above = refl
coordinate_text-positive (negsuc n) above = cc

-- a counter that is neither below nor above its end equals it
pub at_end : (i end : ℕ) → end ≤ i → i ≤ end → i ≡ end
at_end i end least most = omega arith
