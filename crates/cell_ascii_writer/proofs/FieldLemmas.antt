-- Fields with the text of cells that bytes stand for.
use Rattle.std.proofs.Common.{◌≡◌, ◌≢◌, ◌∙◌, ℕ, ◌<◌, ◌≤◌, ◌==◌, false, List, [], ◌∷◌, length, get_or, replicate, decimal, ap, refl, sym, subst, arith}
use Rattle.std.proofs.Math.ListN.{set}
use Rattle.std.proofs.lemmas.Bool.Decides.{nat_tests}
use Rattle.std.proofs.lemmas.Fmt.{decimal_digit}
use Rattle.std.proofs.lemmas.List.{get_or-replicate, get_or-set_other, get_or-set_same}
use Rattle.cell_core_values.specs.SmallCells.{cell_of_stored_byte}
use Rattle.cell_core.specs.Text.{cell_text}
use Rattle.cell_ascii_writer.specs.Fields.{IsFieldOfSpaceAndText}
use Rattle.cell_ascii_writer.specs.declared.fields.Field.{Field}
use Rattle.cell_ascii_writer.specs.parts.MadeFields.{AreFieldsOfByteCells}

-- the text of a byte below 255 is its decimal number
small-text : (null : List ℕ) (i : ℕ) → i < 255 → cell_text null (cell_of_stored_byte i) ≡ decimal i
small-text null i below = let t : (i == 255) ≡ false = grind (arith, nat_tests) in rw t

-- a table filled with the field of 0 has the correct field for 0
pub first-made : (n : ℕ) (field : Field) → IsFieldOfSpaceAndText (48 ∷ []) field → 0 < n → (k : ℕ) (d : Field) → k < 1
    → IsFieldOfSpaceAndText (decimal k) (get_or (replicate n field) k d)
first-made n field is some k d below =
    let first : k ≡ 0 = omega arith in
    let digit : 0 < 10 = omega arith in
    rw (first, get_or-replicate n 0 field d some, decimal_digit 0 digit) is

module _ (null : List ℕ) (small : List Field) (short : length null ≤ 64)
    (made : (k : ℕ) (d : Field) → k < 255 → IsFieldOfSpaceAndText (decimal k) (get_or small k d)) where
  -- if the null text has more than seven bytes, null needs no field
  pub made-but_null : 7 < length null → AreFieldsOfByteCells null small
  made-but_null long = record {
    null = short;
    categories = λ i d below. rw (small-text null i below) (made i d below);
    null_field = λ d few. absurd (omega (arith, few, long));
  }

  -- storing the field of null for byte 255 completes the fields
  pub made-all : (field : Field) → length small ≡ 256 → IsFieldOfSpaceAndText null field
      → AreFieldsOfByteCells null (set small 255 field)
  made-all field room is = record {
    null = short;
    categories = λ i d below.
        let other : i ≢ 255 = omega arith in
        rw (small-text null i below, get_or-set_other small 255 i field d other) (made i d below);
    null_field = λ d few. let within : 255 < length small = omega arith in rw (get_or-set_same small 255 field d within) is;
  }
