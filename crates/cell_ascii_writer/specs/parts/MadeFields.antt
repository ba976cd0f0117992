-- Data prepared before a map is written.
use Rattle.std.specs.Prelude.{ℕ, ◌≡◌, ◌<◌, ◌≤◌, List, length, get_or, slice_index}
use Rattle.cell_core_values.specs.SmallCells.{cell_of_stored_byte}
use Rattle.cell_core.specs.Text.{cell_text}
use Rattle.cell_ascii_writer.specs.declared.fields.Field.{Field}
use Rattle.cell_ascii_writer.specs.Fields.{IsFieldOfSpaceAndText, last_digits_one_per_byte}

-- each byte below 255 has the field of its cell, and byte 255 has the field of null if the null text is short
pub record AreFieldsOfByteCells (null_text : List ℕ) (small : List Field) : Type 0 where
  pub null : length null_text ≤ 64
  pub categories : (i : ℕ) (d : Field) → i < 255 → IsFieldOfSpaceAndText (cell_text null_text (cell_of_stored_byte i))
      (get_or small i d)
  pub null_field : (d : Field) → length null_text ≤ 7 → IsFieldOfSpaceAndText null_text (get_or small 255 d)

-- the three digits of each number below 1000
abbrev pub AreDigitsOfNumbersBelow1000 : List ℕ → Type 0
AreDigitsOfNumbersBelow1000 triples = (i : ℕ) → i < 1000 → slice_index triples i ≡ last_digits_one_per_byte 3 i
