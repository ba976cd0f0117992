use Rattle.std.proofs.Common.{◌≡◌, ℤ, true, sym, ◌∙◌, arith, Some, ◌≤◌, w64, refl}
use Rattle.std.specs.Prelude.{◌*ℤ◌}
use Rattle.std.specs.Int.RustNames.{FitsSigned, unsigned_abs}
use Rattle.std.proofs.lemmas.Int.{ints, to_z-of_z, fits_signed_mul}
use Rattle.cell_ascii_meaning.specs.EdgeNumbers.{is_in_category_range}
use Rattle.cell_ascii_reading.specs.InRange.{cell_or_range_fault}
use Rattle.cell_ascii_meaning.specs.CellTexts.{cell_of_number}
use Rattle.cell_ascii_reading.proofs.NumberLemmas.{number_small}
use Rattle.cell_ascii_reading.proofs.header.multiplied_cell.Goals as goal

by_product : (m n : ℤ) → is_in_category_range n ≡ true → cell_or_range_fault (n *ℤ m) ≡ cell_of_number m (Some n)
by_product m n e = rw e refl

pub returns : goal.returns
returns c =
    let n = c.args.number in
    let m = c.args.multiplier in
    let number_fits = c.ranges.number in
    let multiplier_fits = c.ranges.multiplier in
    let near : is_in_category_range n ≡ true = sym (simp to_z-of_z at c.is_in_category_range.ensures)
    ∙ c.if-not-is_in_category_range.false in
    let small : unsigned_abs m ≤ 2147483648 = omega (arith, ints) in
    let product_fits = fits_signed_mul w64 n m 2147483647 2147483648 (number_small n near) small (omega arith) in
    let wide : FitsSigned w64 m = record { sfits = omega (arith, multiplier_fits.sfits) } in
    (simp to_z-of_z at c.cell_if_in_range-2.ensures) ∙ by_product m n near
