-- Fields are read back from their bytes.
use Rattle.std.proofs.Common.{◌≡◌, ℕ, ℤ, pos, ◌<◌, ◌≤◌, ◌^◌, Bool, true, false, List}
use Rattle.std.proofs.Common.{◌++◌, length, Option, Some, None, IfSome, Ok, refl, ap, arith, append_assoc}
use Rattle.std.specs.Prelude.{◌&&◌, ◌==◌, nat_le, unwrap_or}
use Rattle.std.specs.Int.{w8, w16, w32, w64, to_le_bytes}
use Rattle.std.specs.Int.RustNames.{FitsSigned}
use Rattle.std.proofs.lemmas.Bool.Decides.{nat_tests}
use Rattle.cell_core_devices.specs.Device.{ComingBytes}
use Rattle.cell_core_values.specs.Name.{is_name, starts_like_name, is_name_byte}
use Rattle.std.specs.List.{list_all}
use Rattle.rcell_pipe_request.specs.Feeds.{after}
use Rattle.rcell_pipe_request.specs.Heads.{LabelValue, map_name_reading, format_flags_reading, number_format_reading}
use Rattle.rcell_pipe_request.specs.Heads.{raw_format_reading, label_reading, nodata_if_valid, map_format_reading}
use Rattle.rcell_pipe_request.specs.Heads.{text_format_reading, text_flags_reading, text_nodata_reading}
use Rattle.rcell_pipe_request.specs.RequestRegions.{coordinate_reading}
use Rattle.rcell_pipe_rows.specs.Numbers.{cell_type_of_code}
use Rattle.rcell_pipe_request.specs.RequestFields.{sized_text_reading}
use Rattle.rcell_pipe_request.specs.declared.head.RawFormat.{RawFormat}
use Rattle.rcell_pipe_request.specs.declared.head.MapFormat.TheVariants as formats
use Rattle.rcell_pipe_rows.specs.declared.kind.CellType.{CellType}
use Rattle.rcell_pipe_rows.specs.declared.kind.CellType.TheVariants.{U8, I8, U16, I16, U32, I32, I64}
use Rattle.rcell_pipe_request.proofs.FeedLemmas.{bytes_reading-all}
use Rattle.rcell_pipe_law.specs.SentBytes.{text_with_length_bytes, twos_complement_bytes, code_of_cell_type}
use Rattle.rcell_pipe_law.specs.SentBytes.{null_and_mask_flags, text_format_bytes}
use Rattle.rcell_pipe_law.specs.SentBytes.{raw_format_bytes, label_bytes}
use Rattle.rcell_pipe_law.specs.SentMaps.{IsNumberOfCellType, IsSendableLabel, IsSendableCoordinateText}
use Rattle.rcell_pipe_law.proofs.SentNumberLemmas.{reads_8, reads_16, reads_64, signed_32, signed_64}

-- the bytes after two texts are the bytes after the first, then after the second
pub after-append : (a b : List ℕ) (rest : ComingBytes) → after (a ++ b) rest ≡ after a (after b rest)
after-append a b rest = ap (λ (bs : List ℕ). record { bytes = bs; fails = rest.fails }) (append_assoc a b
    rest.bytes)

pub text_8 : (text : List ℕ) (rest : ComingBytes) → length text < 2 ^ 8
    → sized_text_reading w8 (after (text_with_length_bytes w8 text) rest) ≡ Ok
    (text, rest)
unfolding sized_text_reading
text_8 text rest short =
    rw (after-append (to_le_bytes w8 (length text)) text rest, reads_8 (length text) (after text rest) short)
    (bytes_reading-all (length text) text (after text rest) rest refl refl)

pub text_16 : (text : List ℕ) (rest : ComingBytes) → length text < 2 ^ 16
    → sized_text_reading w16 (after (text_with_length_bytes w16 text) rest) ≡ Ok (text, rest)
unfolding sized_text_reading
text_16 text rest short =
    rw (after-append (to_le_bytes w16 (length text)) text rest, reads_16 (length text) (after text rest) short)
    (bytes_reading-all (length text) text (after text rest) rest refl refl)

pub text_64 : (text : List ℕ) (rest : ComingBytes) → length text < 2 ^ 64
    → sized_text_reading w64 (after (text_with_length_bytes w64 text) rest) ≡ Ok (text, rest)
unfolding sized_text_reading
text_64 text rest short =
    rw (after-append (to_le_bytes w64 (length text)) text rest, reads_64 (length text) (after text rest) short)
    (bytes_reading-all (length text) text (after text rest) rest refl refl)

pub coordinate_reads : (edge : ℤ) (text : List ℕ) (rest : ComingBytes) → IsSendableCoordinateText edge text
    → coordinate_reading (after (text_with_length_bytes w8 text) rest) ≡ Ok (edge, rest)
unfolding coordinate_reading
coordinate_reads edge text rest spells = rw (text_8 text rest spells.short, spells.spelt) refl

both : (a b : Bool) → (a && b) ≡ true → (a ≡ true) × (b ≡ true)
both true b is = (refl, is)
both false b is = cc

pub name_short : (name : List ℕ) → is_name name ≡ true → length name < 2 ^ 8
name_short name is =
    let rest = both (starts_like_name name) (list_all is_name_byte name && nat_le (length name) 64) is in
    let len = both (list_all is_name_byte name) (nat_le (length name) 64) rest.1 in
    grind (arith, nat_tests)

pub name_reads : (name : List ℕ) (rest : ComingBytes) → is_name name ≡ true
    → map_name_reading (after (text_with_length_bytes w8 name) rest) ≡ Ok (name, rest)
unfolding map_name_reading
name_reads name rest is = rw (text_8 name rest (name_short name is), is) refl

code_small : (kind : CellType) → code_of_cell_type kind < 2 ^ 8
code_small U8 = omega arith
code_small I8 = omega arith
code_small U16 = omega arith
code_small I16 = omega arith
code_small U32 = omega arith
code_small I32 = omega arith
code_small I64 = omega arith

code_is : (kind : CellType) → cell_type_of_code (code_of_cell_type kind) ≡ Some kind
code_is U8 = refl
code_is I8 = refl
code_is U16 = refl
code_is I16 = refl
code_is U32 = refl
code_is I32 = refl
code_is I64 = refl

-- no type of numbers has the code of a text grid
code_is_not_8 : (kind : CellType) → (code_of_cell_type kind == 8) ≡ false
code_is_not_8 U8 = refl
code_is_not_8 I8 = refl
code_is_not_8 U16 = refl
code_is_not_8 I16 = refl
code_is_not_8 U32 = refl
code_is_not_8 I32 = refl
code_is_not_8 I64 = refl

flags_few : (nodata : Option ℤ) (masked : Bool) → null_and_mask_flags nodata masked ≤ 3
flags_few None false = omega arith
flags_few None true = omega arith
flags_few (Some n) false = omega arith
flags_few (Some n) true = omega arith

flags_good : (nodata : Option ℤ) (masked : Bool) → nat_le (null_and_mask_flags nodata masked) 3 ≡ true
flags_good None false = refl
flags_good None true = refl
flags_good (Some n) false = refl
flags_good (Some n) true = refl

flags_masked : (nodata : Option ℤ) (masked : Bool) → nat_le 2 (null_and_mask_flags nodata masked) ≡ masked
flags_masked None false = refl
flags_masked None true = refl
flags_masked (Some n) false = refl
flags_masked (Some n) true = refl

flags_reads : (nodata : Option ℤ) (masked : Bool) (rest : ComingBytes)
    → format_flags_reading (after (to_le_bytes w8 (null_and_mask_flags
    nodata masked)) rest) ≡ Ok (null_and_mask_flags nodata masked, rest)
unfolding format_flags_reading
flags_reads nodata masked rest =
    rw (
      reads_8 (null_and_mask_flags nodata masked) rest (omega (arith, flags_few nodata masked)),
      flags_good nodata masked,
    ) refl

nodata_is : (kind : CellType) (nodata : Option ℤ) (masked : Bool) → IfSome nodata (IsNumberOfCellType kind)
    → nodata_if_valid kind (null_and_mask_flags nodata masked) (unwrap_or nodata (pos 0)) ≡ Some nodata
nodata_is kind None false of = refl
nodata_is kind None true of = refl
nodata_is kind (Some n) false of = rw (of.has) refl
nodata_is kind (Some n) true of = rw (of.has) refl

nodata_fits : (kind : CellType) (nodata : Option ℤ) → IfSome nodata (IsNumberOfCellType kind)
    → FitsSigned w64 (unwrap_or nodata (pos 0))
nodata_fits kind None of = omega arith
nodata_fits kind (Some n) of = of.fits

pub format_reads : (format : RawFormat) (rest : ComingBytes) → IfSome format.nodata (IsNumberOfCellType format.kind)
    → map_format_reading (after (raw_format_bytes format) rest) ≡ Ok (formats.Numbers format, rest)
unfolding map_format_reading number_format_reading raw_format_reading
format_reads format rest of =
    let number = unwrap_or format.nodata (pos 0) in
    let flags = null_and_mask_flags format.nodata format.is_masked in
    rw (
      after-append (to_le_bytes w8 (code_of_cell_type format.kind)) (to_le_bytes w8 flags
          ++ twos_complement_bytes w64 number)
          rest,
      reads_8 (code_of_cell_type format.kind) (after (to_le_bytes w8 flags ++ twos_complement_bytes w64 number) rest)
          (code_small format.kind),
      code_is_not_8 format.kind,
      code_is format.kind,
      after-append (to_le_bytes w8 flags) (twos_complement_bytes w64 number) rest,
      flags_reads format.nodata format.is_masked (after (twos_complement_bytes w64 number) rest),
      signed_64 number rest (nodata_fits format.kind format.nodata of),
      nodata_is format.kind format.nodata format.is_masked of,
      flags_masked format.nodata format.is_masked,
    ) refl

pub text_format_reads : (rest : ComingBytes)
    → map_format_reading (after text_format_bytes rest) ≡ Ok (formats.Text, rest)
unfolding map_format_reading text_format_reading text_flags_reading text_nodata_reading
text_format_reads rest =
    let number = twos_complement_bytes w64 (pos 0) in
    rw (
      after-append (to_le_bytes w8 8) (to_le_bytes w8 0 ++ number) rest,
      reads_8 8 (after (to_le_bytes w8 0 ++ number) rest) (omega arith),
      after-append (to_le_bytes w8 0) number rest,
      reads_8 0 (after number rest) (omega arith),
      signed_64 (pos 0) rest (omega arith),
    ) refl

pub label_reads : (label : LabelValue) (rest : ComingBytes) → IsSendableLabel label
    → label_reading (after (label_bytes label) rest) ≡ Ok (label, rest)
unfolding label_reading
label_reads label rest is =
    rw (
      after-append (twos_complement_bytes w32 label.category) (text_with_length_bytes w16 label.text) rest,
      signed_32 label.category (after (text_with_length_bytes w16 label.text) rest) is.category,
      text_16 label.text rest is.text,
      is.good,
    ) refl
