-- The header, read from the bytes to come: key lines, then the first word of the data (r.in.ascii manual; limits:
-- profile).
pub use Rattle.cell_core_values.specs.Answers.{◌>>=◌}
pub use Rattle.cell_ascii_meaning.specs.GridWords.{is_line_feed, GridHeaderContents, is_colon, has_colon, is_int_type, usual_null_text, usual_multiplier}
use Rattle.std.specs.Prelude.{ℕ, ℤ, zero, suc, ◌+◌, Bool, true, false, ◌&&◌, ◌==◌, not, nat_lt, List, [], ◌∷◌, drop, Option, Some, None, Result, Ok, Err, if◌then◌else◌, unwrap_or}
use Rattle.std.specs.List.{prefix_len, before_first, after_first}
use Rattle.cell_core_devices.specs.Device.{ComingBytes}
use Rattle.cell_core_values.specs.Region.{RegionValue, region_or_first_fault}
use Rattle.cell_core_values.specs.declared.region.RegionFault.{RegionFault}
use Rattle.cell_ascii_meaning.specs.GridTokens.{is_space, NextWordStart, Begins, Ends, Stops, next_word_start}
use Rattle.cell_ascii_meaning.specs.GridTokens.{word_continued_in_bytes, grid_fault_at_line}
use Rattle.cell_ascii_meaning.specs.EdgeNumbers.{coordinate_of_text, row_or_column_count_of_text}
use Rattle.cell_ascii_meaning.specs.EdgeNumbers.{whole_number_in_category_range}
use Rattle.cell_ascii_meaning.specs.KeyNames.{header_key_with_name}
use Rattle.cell_ascii_meaning.specs.declared.header_key.HeaderKey.{HeaderKey}
use Rattle.cell_ascii_meaning.specs.declared.header_key.HeaderKey.TheVariants.{North, South, East, West, Rows, Cols, Null, CellType, Multiplier}
use Rattle.cell_ascii_meaning.specs.declared.grid_fault.GridKind.{GridKind}
use Rattle.cell_ascii_meaning.specs.declared.grid_fault.GridKind.TheVariants.{BadHeader, TwiceKey, MissingKey, BadNumber, BadType, Region, Read, ReaderStuck}
use Rattle.cell_ascii_meaning.specs.declared.grid_fault.GridFault.{GridFault}

-- the keys read so far with their values; for the type, only whether it was given
pub record HeaderKeyValues : Type 0 where
  pub north : Option ℤ
  pub south : Option ℤ
  pub east : Option ℤ
  pub west : Option ℤ
  pub rows : Option ℕ
  pub cols : Option ℕ
  pub null : Option (List ℕ)
  pub kind : Bool
  pub multiplier : Option ℤ

-- no key was read so far
abbrev pub empty_header_key_values : HeaderKeyValues
empty_header_key_values = record { north = None; south = None; east = None; west = None; rows = None; cols = None; null = None; kind = false; multiplier = None }

-- the keys with a new value, if its key is new and the value is valid
abbrev pub key_values_with_new_valid_value : {X : Type 0} → Option X → Option X → (X → HeaderKeyValues)
    → Result HeaderKeyValues GridKind
key_values_with_new_valid_value (Some old) value keep = Err TwiceKey
key_values_with_new_valid_value None None keep = Err BadNumber
key_values_with_new_valid_value None (Some x) keep = Ok (keep x)

-- the keys with one more key and its value
abbrev pub key_values_with_header_key : HeaderKeyValues → Option HeaderKey → List ℕ → Result HeaderKeyValues GridKind
key_values_with_header_key keys None value = Err BadHeader
key_values_with_header_key keys (Some North) value = key_values_with_new_valid_value keys.north (coordinate_of_text value) (λ x. record keys { north = Some x })
key_values_with_header_key keys (Some South) value = key_values_with_new_valid_value keys.south (coordinate_of_text value) (λ x. record keys { south = Some x })
key_values_with_header_key keys (Some East) value = key_values_with_new_valid_value keys.east (coordinate_of_text value)
    (λ x. record keys { east = Some x })
key_values_with_header_key keys (Some West) value = key_values_with_new_valid_value keys.west (coordinate_of_text value)
    (λ x. record keys { west = Some x })
key_values_with_header_key keys (Some Rows) value = key_values_with_new_valid_value keys.rows
    (row_or_column_count_of_text value)
    (λ x. record keys { rows = Some x })
key_values_with_header_key keys (Some Cols) value = key_values_with_new_valid_value keys.cols
    (row_or_column_count_of_text value)
    (λ x. record keys { cols = Some x })
key_values_with_header_key keys (Some Null) value = if has_colon value then Err BadHeader else key_values_with_new_valid_value keys.null (Some value) (λ x. record keys { null = Some x })
key_values_with_header_key keys (Some CellType) value = if keys.kind then Err TwiceKey else (if is_int_type value then Ok (record keys { kind = true }) else Err BadType)
key_values_with_header_key keys (Some Multiplier) value = key_values_with_new_valid_value keys.multiplier (whole_number_in_category_range value) (λ x. record keys { multiplier = Some x })

-- the header that these keys define over their region, or an error if the coordinates and sizes do not form a region
abbrev pub header_of_keys_and_region : HeaderKeyValues → Result RegionValue RegionFault
    → Result GridHeaderContents GridKind
header_of_keys_and_region keys (Ok region) = Ok (record { region = region; null_text = unwrap_or keys.null usual_null_text; multiplier = unwrap_or keys.multiplier usual_multiplier })
header_of_keys_and_region keys (Err f) = Err (Region f)

-- the header that these keys define
abbrev pub header_defined_by_keys : HeaderKeyValues → Result GridHeaderContents GridKind
header_defined_by_keys keys = all keys.north keys.south keys.east keys.west keys.rows keys.cols
  where
    all : Option ℤ → Option ℤ → Option ℤ → Option ℤ → Option ℕ → Option ℕ → Result GridHeaderContents GridKind
    all (Some n) (Some s) (Some e) (Some w) (Some r) (Some c) = header_of_keys_and_region keys (region_or_first_fault (record { north = n; south = s; east = e; west = w; rows = r; cols = c }))
    all n s e w r c = Err MissingKey

-- the byte is a blank within a line
abbrev pub is_grid_blank : ℕ → Bool
is_grid_blank b = is_space b && not (is_line_feed b)

-- the end of a run of blanks within a line: a word, a line feed with the length of its run, the end of the text, or an
-- error
pub data BlankRunEnd : Type 0 where
  Word : ComingBytes → BlankRunEnd
  Feed : ℕ → ComingBytes → BlankRunEnd
  Last : BlankRunEnd
  Fault : GridFault → BlankRunEnd

-- the end of a run of blanks that is `run` bytes long, at these bytes
abbrev pub end_of_blank_run_at_bytes : ℕ → ℕ → List ℕ → Bool → BlankRunEnd
end_of_blank_run_at_bytes line run [] true = Fault (grid_fault_at_line Read line)
end_of_blank_run_at_bytes line run [] false = Last
end_of_blank_run_at_bytes line run (b ∷ bs) fails =
    if is_line_feed b then (if nat_lt run 1048576 then Feed (run + 1) (record { bytes = bs; fails = fails }) else Fault (grid_fault_at_line ReaderStuck line))
    else Word (record { bytes = b ∷ bs; fails = fails })

-- the end of a run of blanks that has `run` bytes so far and may continue in these bytes
unfoldable pub end_of_continued_blank_run : ℕ → ℕ → ComingBytes → BlankRunEnd
end_of_continued_blank_run line run c =
    let gap = prefix_len is_grid_blank c.bytes in
    if nat_lt 1048576 (run + gap) then Fault (grid_fault_at_line ReaderStuck line)
    else end_of_blank_run_at_bytes line (run + gap) (drop gap c.bytes) c.fails

-- the value of a header line: the text after the colon if there is any, otherwise the next word of the line
abbrev pub header_value_after_colon : ℕ → List ℕ → ComingBytes → Result (List ℕ × ComingBytes) GridFault
header_value_after_colon line (b ∷ bs) c = Ok (b ∷ bs, c)
header_value_after_colon line [] c = after (end_of_continued_blank_run line 0 c)
  where
    after : BlankRunEnd → Result (List ℕ × ComingBytes) GridFault
    after (Word d) = word_continued_in_bytes line [] d
    after (Feed run d) = Err (grid_fault_at_line BadHeader line)
    after Last = Err (grid_fault_at_line BadHeader line)
    after (Fault f) = Err f

-- the end of a header line: the length of the run and the bytes after the line feed, or nothing at the end of the text
abbrev pub HeaderLineEnd : Type 0
HeaderLineEnd = Option (ℕ × ComingBytes)

-- the end of a header line, unless another word follows the value
abbrev pub header_line_end_or_fault : ℕ → BlankRunEnd → Result HeaderLineEnd GridFault
header_line_end_or_fault line (Word d) = Err (grid_fault_at_line BadHeader line)
header_line_end_or_fault line (Feed run d) = Ok (Some (run, d))
header_line_end_or_fault line Last = Ok None
header_line_end_or_fault line (Fault f) = Err f

-- the result, with the line number added to an error
abbrev pub result_with_line_in_fault : {X : Type 0} → ℕ → Result X GridKind → Result X GridFault
result_with_line_in_fault line (Ok x) = Ok x
result_with_line_in_fault line (Err kind) = Err (grid_fault_at_line kind line)

-- a header line after its first word: the keys with the new one, and the end of the line
abbrev pub header_line_after_first_word : ℕ → HeaderKeyValues → List ℕ → ComingBytes
    → Result (HeaderKeyValues × HeaderLineEnd) GridFault
header_line_after_first_word line keys word c =
    header_value_after_colon line (after_first is_colon word) c
    >>= (λ value. header_line_end_or_fault line (end_of_continued_blank_run line 0 value.1)
    >>= (λ end. result_with_line_in_fault line (key_values_with_header_key keys
    (header_key_with_name (before_first is_colon word)) value.0)
    >>= (λ more. Ok (more, end))))

-- a position in the data: a pending word that was read but not checked yet, the line, the length of the current run of
-- blanks and line feeds, and the bytes to come
pub record DataPosition : Type 0 where
  pub pending : Option (List ℕ)
  pub line : ℕ
  pub run : ℕ
  pub coming : ComingBytes

-- the header, and the position at which the data begins
pub record HeaderAndDataStart : Type 0 where
  pub header : GridHeaderContents
  pub at : DataPosition

-- the end of the text, with no bytes left
abbrev pub empty_coming_bytes : ComingBytes
empty_coming_bytes = record { bytes = []; fails = false }

-- the header that the keys define and the position at which the data begins, or an error at this line
abbrev pub header_and_data_start : HeaderKeyValues → ℕ → Option (List ℕ) → ComingBytes
    → Result HeaderAndDataStart GridFault
header_and_data_start keys line pending c =
    result_with_line_in_fault line (header_defined_by_keys keys) >>= (λ h. Ok (record { header = h; at = record { pending = pending; line = line; run = 0; coming = c } }))

-- the header after this header line, where `rest` reads the remaining lines
abbrev pub rest_of_header_after_line : (HeaderKeyValues → ℕ → ℕ → ComingBytes → Result HeaderAndDataStart GridFault) → ℕ → HeaderKeyValues × HeaderLineEnd → Result HeaderAndDataStart GridFault
rest_of_header_after_line rest line (keys, None) = header_and_data_start keys line None empty_coming_bytes
rest_of_header_after_line rest line (keys, Some (run, c)) = rest keys (line + 1) run c

-- a line from its first word: a header line if the word has a colon, otherwise the start of the data
abbrev pub rest_of_header_from_word : (HeaderKeyValues → ℕ → ℕ → ComingBytes → Result HeaderAndDataStart GridFault) → HeaderKeyValues → NextWordStart → Result HeaderAndDataStart GridFault
rest_of_header_from_word rest keys (Stops f) = Err f
rest_of_header_from_word rest keys (Ends line) = header_and_data_start keys line None empty_coming_bytes
rest_of_header_from_word rest keys (Begins line c) =
    word_continued_in_bytes line [] c
    >>= (λ w. if has_colon w.0 then header_line_after_first_word line keys w.0 w.1 >>= rest_of_header_after_line rest line else header_and_data_start keys line (Some w.0) w.1)

-- The header that starts at a line. Each line adds a new key and there are nine keys, so fuel for ten lines is enough.
-- Counting the keys that are left instead would need a proof here.
unfoldable pub rest_of_header_from_line : ℕ → HeaderKeyValues → ℕ → ℕ → ComingBytes
    → Result HeaderAndDataStart GridFault
rest_of_header_from_line zero keys line run c = Err (grid_fault_at_line BadHeader line)
rest_of_header_from_line (suc fuel) keys line run c = rest_of_header_from_word
    (λ k l r d. rest_of_header_from_line fuel k l r d) keys (next_word_start line run c)

-- the header of a text: at most nine key lines, and the line after them
abbrev pub header_of_text : ComingBytes → Result HeaderAndDataStart GridFault
header_of_text c = rest_of_header_from_line 10 empty_header_key_values 1 0 c
