-- Fields, which are a space and a text stored as bytes of a number; and text that is written except for its last bytes.
use Rattle.std.specs.Prelude.{ℕ, ◌≡◌, ◌+◌, ◌*◌, ◌/◌, ◌%◌, ◌^◌, ◌<◌, ◌≤◌, zero, suc, List, ◌∷◌, ◌++◌, Option, codes, slice_index}
use Rattle.std.specs.Simd.Lanes.{digits_l}
use Rattle.cell_core_values.specs.Letters.{byte}
use Rattle.cell_core_devices.specs.Device.{SinkFaults}
use Rattle.cell_core_devices.specs.Blocks.{OutputBlockValue, IsTextAppendedThroughBlock}
use Rattle.cell_ascii_writer.specs.declared.fields.Field.{Field}

-- the lowest `size` bytes of a number
abbrev pub lowest_bytes_of_number : ℕ → ℕ → List ℕ
lowest_bytes_of_number bytes size = digits_l 256 size bytes

-- the field is a space and this text
pub record IsFieldOfSpaceAndText (text : List ℕ) (field : Field) : Type 0 where
  pub few : field.size ≤ 8
  pub bytes : lowest_bytes_of_number field.bytes field.size ≡ byte (codes " ") ∷ text

-- the last `size` digits of a number, one per byte, with the first digit in the lowest byte
abbrev pub last_digits_one_per_byte : ℕ → ℕ → ℕ
last_digits_one_per_byte zero number = 0
last_digits_one_per_byte (suc size) number = last_digits_one_per_byte size (number / 10) + 256 ^ size * (number % 10)

-- the text was appended, except for its last bytes, which are pending
pub record HasAppendedTextExceptPending {S : Type 0} (taken : S → Option (List ℕ)) (faults : S → SinkFaults) (old : S) (block : OutputBlockValue) (text pending : List ℕ) (now : S) (new : OutputBlockValue) : Type 0 where
  pub front : List ℕ
  pub whole : front ++ pending ≡ text
  pub appends : IsTextAppendedThroughBlock taken faults old block front now new
