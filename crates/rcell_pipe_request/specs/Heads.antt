-- The head of a map in a request: everything before its cells (profile).
use Rattle.std.specs.Prelude.{◌≡◌, ℕ, ℤ, pos, negsuc, Bool, true, false, ◌||◌, nat_le, List, [], ◌∷◌, ◌++◌, map, Option, Some, None, Ok, Err, ◌==◌, if◌then◌else◌}
use Rattle.std.specs.Ordering.{int_eq}
use Rattle.std.specs.List.{list_any}
use Rattle.std.specs.Option.{is_none}
use Rattle.std.specs.Int.{w8, w16, w32, w64}
use Rattle.cell_core_devices.specs.Device.{ComingBytes}
use Rattle.cell_core_values.specs.Name.{is_name, place_of_name}
use Rattle.rcell_pipe_rows.specs.declared.kind.CellType.{CellType}
use Rattle.rcell_pipe_rows.specs.Numbers.{cell_type_of_code, can_represent_number}
use Rattle.rcell_pipe_request.specs.declared.head.RawFormat.{RawFormat}
use Rattle.rcell_pipe_request.specs.declared.head.MapFormat.{MapFormat}
use Rattle.rcell_pipe_request.specs.declared.head.MapFormat.TheVariants as formats
use Rattle.rcell_pipe_request.specs.declared.head.CategoryLabel.{CategoryLabel}
use Rattle.rcell_pipe_request.specs.declared.head.MapHead.{MapHead}
use Rattle.rcell_pipe_request.specs.declared.error.ErrorKind.TheVariants as kinds
use Rattle.cell_core_values.specs.Answers.{◌>>=◌}
use Rattle.rcell_pipe_request.specs.RequestFields.{RequestFieldReading, unsigned_number_reading, signed_number_reading}
use Rattle.rcell_pipe_request.specs.RequestFields.{sized_text_reading, reading_repeated_n_times}
use Rattle.rcell_pipe_request.specs.RequestFields.{reading_of_value_or_error_kind}

-- a map name
unfoldable pub map_name_reading : ComingBytes → RequestFieldReading (List ℕ)
map_name_reading c = do
  text ← sized_text_reading w8 c
  if is_name text.0 then Ok text else Err kinds.BadName

-- a name that differs from the previous maps' names
unfoldable pub new_map_name_reading : List (List ℕ) → ComingBytes → RequestFieldReading (List ℕ)
new_map_name_reading names c = do
  name ← map_name_reading c
  if is_none (place_of_name name.0 names) then Ok name else Err kinds.NameTwice

-- with flag 1, a number of the type denotes null; without it, the number must be 0
abbrev pub nodata_if_valid : CellType → ℕ → ℤ → Option (Option ℤ)
nodata_if_valid kind flags number =
    if (flags == 1) || (flags == 3) then (if can_represent_number kind number then Some (Some number) else None)
    else (if int_eq number (pos 0) then Some None else None)

unfoldable pub format_flags_reading : ComingBytes → RequestFieldReading ℕ
format_flags_reading c = do
  flags ← unsigned_number_reading w8 c
  if nat_le flags.0 3 then Ok flags else Err kinds.BadFlags

-- for numbers of this type: the number that denotes null, if any, and whether the map has a mask
unfoldable pub raw_format_reading : CellType → ComingBytes → RequestFieldReading RawFormat
raw_format_reading kind c = do
  flags ← format_flags_reading c
  number ← signed_number_reading w64 flags.1
  nodata ← reading_of_value_or_error_kind kinds.BadNodata number.1 (nodata_if_valid kind flags.0 number.0)
  Ok (record { kind = kind; nodata = nodata.0; is_masked = nat_le 2 flags.0 }, nodata.1)

-- the format of rows of numbers after the code of their type
unfoldable pub number_format_reading : ℕ → ComingBytes → RequestFieldReading MapFormat
number_format_reading code c = do
  kind ← reading_of_value_or_error_kind kinds.BadType c (cell_type_of_code code)
  format ← raw_format_reading kind.0 kind.1
  Ok (formats.Numbers format.0, format.1)

-- the flags of a text grid, which must be 0
unfoldable pub text_flags_reading : ComingBytes → RequestFieldReading ℕ
text_flags_reading c = do
  flags ← unsigned_number_reading w8 c
  if flags.0 == 0 then Ok flags else Err kinds.BadFlags

-- the nodata value of a text grid, which must be 0
unfoldable pub text_nodata_reading : ComingBytes → RequestFieldReading ℤ
text_nodata_reading c = do
  number ← signed_number_reading w64 c
  if int_eq number.0 (pos 0) then Ok number else Err kinds.BadNodata

-- what follows the type of a text grid
unfoldable pub text_format_reading : ComingBytes → RequestFieldReading MapFormat
text_format_reading c = do
  flags ← text_flags_reading c
  number ← text_nodata_reading flags.1
  Ok (formats.Text, number.1)

-- a text grid has the type 8; all other types are types of numbers
unfoldable pub map_format_reading : ComingBytes → RequestFieldReading MapFormat
map_format_reading c = do
  code ← unsigned_number_reading w8 c
  if code.0 == 8 then text_format_reading code.1 else number_format_reading code.0 code.1

-- a category and its label
pub record LabelValue : Type 0 where
  pub category : ℤ
  pub text : List ℕ

-- the text contains a line feed
abbrev pub has_line_feed : List ℕ → Bool
has_line_feed text = list_any (λ b. b == 10) text

-- a label is invalid if its number is -2^31, which is not a category, or its text contains a line feed
abbrev pub is_bad_label : ℤ → List ℕ → Bool
is_bad_label category text = int_eq category (negsuc 2147483647) || has_line_feed text

-- a category and the text of its label
unfoldable pub label_reading : ComingBytes → RequestFieldReading LabelValue
label_reading c = do
  category ← signed_number_reading w32 c
  text ← sized_text_reading w16 category.1
  if is_bad_label category.0 text.0 then Err kinds.BadLabel else Ok (record { category = category.0; text = text.0 }, text.1)

-- the labels so far, and one more
unfoldable pub next_label_reading : List LabelValue → ComingBytes → RequestFieldReading (List LabelValue)
next_label_reading labels c = do
  label ← label_reading c
  Ok (labels ++ label.0 ∷ [], label.1)

-- the number of labels, then the labels
unfoldable pub labels_reading : ComingBytes → RequestFieldReading (List LabelValue)
labels_reading c = do
  count ← unsigned_number_reading w32 c
  reading_repeated_n_times next_label_reading [] count.0 count.1

pub record MapHeadValue : Type 0 where
  pub name : List ℕ
  pub format : MapFormat
  pub labels : List LabelValue

-- the head of a map after maps with these names; an error in a field is reported before the next field is read
unfoldable pub map_head_reading : List (List ℕ) → ComingBytes → RequestFieldReading MapHeadValue
map_head_reading names c = do
  name ← new_map_name_reading names c
  format ← map_format_reading name.1
  labels ← labels_reading format.1
  Ok (record { name = name.0; format = format.0; labels = labels.0 }, labels.1)

-- the label as a value
abbrev pub label_as_value : CategoryLabel → LabelValue
label_as_value label = record { category = label.category; text = label.text.items }

abbrev pub labels_as_values : List CategoryLabel → List LabelValue
labels_as_values labels = map label_as_value labels

abbrev pub map_head_as_value : MapHead → MapHeadValue
map_head_as_value head = record { name = head.name; format = head.format; labels = labels_as_values head.labels.items }

-- the label's number is a category, and its text contains no line feed
abbrev pub IsGoodLabel : CategoryLabel → Type 0
IsGoodLabel label = is_bad_label label.category label.text.items ≡ false
