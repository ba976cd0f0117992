-- Results that fit in 32 bits.
use Rattle.std.proofs.Common.{◌≡◌, ◌<◌, ◌≤◌, ◌/◌, ℕ, zero, suc, ℤ, pos, negsuc, ◌-ℤ◌, ◌*ℤ◌, ◌≤ℤ◌, neg_ℤ, refl, sym, ap, ◌∙◌, arith, FitsSigned, w32, Option, Some, None, Bool, true, false}
use Rattle.std.proofs.lemmas.Int.{ints, quot-rem}
use Rattle.std.proofs.Math.Nat.{div-le_self}
use Rattle.std.specs.Int.{CanDivide, IsNonZero}
use Rattle.std.specs.Int.RustNames.{int_div, int_rem}
use Rattle.std.specs.Option.{SomeIff}
use Rattle.std.specs.Prelude.{if◌then◌else◌}
use Rattle.cell_calc_language.specs.CellOperators.{category_or_null, applied_unless_null, is_zero}
use Rattle.cell_core_values.specs.Cell.{is_category}

-- a category fits in 32 bits
category_fits : (n : ℤ) → is_category n ≡ true → FitsSigned w32 n
category_fits (pos n) h = grind (arith, ints)
category_fits (negsuc n) h = grind (arith, ints)

-- a value that does not fit in 32 bits is not a category
no_category : (n : ℤ) (b : Bool) → is_category n ≡ b → (FitsSigned w32 n → ⊥) → category_or_null n ≡ None
no_category n true h f = absurd (f (category_fits n h))
no_category n false h f = rw h

-- converting a checked result to a category gives the same cell as converting the exact result
pub fit_checked : (found : Option ℤ) (n : ℤ) → SomeIff found (FitsSigned w32 n) n
    → applied_unless_null (λ m. category_or_null m) found ≡ category_or_null n
fit_checked None n h = sym (no_category n (is_category n) refl h)
fit_checked (Some m) n h = ap category_or_null h.1

-- numbers up to 2147483647 fit in 32 bits
pos_fits : (m : ℕ) → m ≤ 2147483647 → FitsSigned w32 (pos m)
pos_fits m h = record { sfits = omega arith }

neg_fits : (m : ℕ) → m ≤ 2147483647 → FitsSigned w32 (neg_ℤ (pos m))
neg_fits zero h = record { sfits = omega arith }
neg_fits (suc m) h = record { sfits = omega arith }

-- the quotient of a category fits in 32 bits
quotient_fits : (x y : ℤ) → negsuc 2147483646 ≤ℤ x → FitsSigned w32 x → FitsSigned w32 (int_div x y)
quotient_fits (pos a) (pos b) low fits = let f : a < 2147483648 = fits.sfits in pos_fits (a / b) (omega (arith, div-le_self a b))
quotient_fits (pos a) (negsuc b) low fits = let f : a < 2147483648 = fits.sfits in neg_fits (a / suc b) (omega (arith, div-le_self a (suc b)))
quotient_fits (negsuc a) (pos b) low fits = let f : a ≤ 2147483646 = omega (arith, ints) in neg_fits (suc a / b) (omega (arith, div-le_self (suc a) b))
quotient_fits (negsuc a) (negsuc b) low fits = let f : a ≤ 2147483646 = omega (arith, ints) in pos_fits (suc a / suc b) (omega (arith, div-le_self (suc a) (suc b)))

-- a number other than 0 is still other than 0 in 32 bits
nonzero : (y : ℤ) → is_zero y ≡ false → FitsSigned w32 y → IsNonZero w32 y
nonzero (pos n) h fits = grind arith
nonzero (negsuc n) h fits = let f : n < 2147483648 = fits.sfits in omega arith

-- the remainder in terms of the quotient
remainder_is : (x y : ℤ) → int_rem x y ≡ x -ℤ (y *ℤ int_div x y)
remainder_is x y = let e = quot-rem x y in omega (arith, ints, e)

divides : (x y : ℤ) → negsuc 2147483646 ≤ℤ x → FitsSigned w32 x → is_zero y ≡ false → FitsSigned w32 y → CanDivide w32 x y
divides x y low fits divisor small = (nonzero y divisor small, quotient_fits x y low fits)

pub fit_remainder : (found : Option ℤ) (x y : ℤ) → negsuc 2147483646 ≤ℤ x → FitsSigned w32 x → is_zero y ≡ false → FitsSigned w32 y
    → SomeIff found (CanDivide w32 x y) (int_rem x y) → applied_unless_null (λ m. category_or_null m) found
    ≡ category_or_null (x -ℤ (y *ℤ int_div x y))
fit_remainder None x y low fits divisor small h = absurd (h (divides x y low fits divisor small))
fit_remainder (Some m) x y low fits divisor small h = ap category_or_null (h.1 ∙ remainder_is x y)

-- a natural number up to 2147483647 is a category
pub fit_number : (n : ℕ) → n ≤ 2147483647 → category_or_null (pos n) ≡ Some (pos n)
fit_number n h = by_case (is_category (pos n)) refl
  where
    by_case : (b : Bool) → is_category (pos n) ≡ b → (if b then Some (pos n) else None) ≡ Some (pos n)
    by_case true e = refl
    by_case false e = grind (arith, ints)
