-- The error of a grid text (profile). Each byte, the end, and a failing read are places; the first place with an error
-- is reported.
use Rattle.std.specs.Prelude.{ℕ, ◌+◌, ◌*◌, Bool, true, false, ◌&&◌, ◌||◌, ◌==◌, not, nat_lt, nat_le, is_some, List, [], ◌∷◌, ◌++◌, length, Option, Some, None, Result, Ok, Err, if◌then◌else◌, bytes_eq, codes}
use Rattle.std.specs.List.{slice_split, suffix_len, list_any}
use Rattle.std.specs.Option.{option_map, option_and_then}
use Rattle.cell_core_devices.specs.Device.{ComingBytes}
use Rattle.cell_ascii_meaning.specs.GridWords.{is_line_feed}
use Rattle.cell_ascii_meaning.specs.GridTokens.{is_space, is_word_byte, line_feed_count, grid_fault_at_line}
use Rattle.cell_ascii_meaning.specs.EdgeNumbers.{coordinate_of_text, row_or_column_count_of_text}
use Rattle.cell_ascii_meaning.specs.EdgeNumbers.{whole_number_in_category_range}
use Rattle.cell_ascii_meaning.specs.KeyNames.{header_key_with_name}
use Rattle.cell_ascii_meaning.specs.Header.{HeaderKeyValues, GridHeaderContents, header_defined_by_keys}
use Rattle.cell_ascii_meaning.specs.CellTexts.{cell_of_word}
use Rattle.cell_ascii_meaning.specs.GridText.{is_nonempty_word, words_of_each_line, is_data_line, is_header_line, header_lines, data_words, key_text_of_header_line, values_of_header_line, value_of_header_key, null_text, int_type_of_text}
use Rattle.cell_ascii_meaning.specs.declared.header_key.HeaderKey.{HeaderKey}
use Rattle.cell_ascii_meaning.specs.declared.header_key.HeaderKey.TheVariants.{North, South, East, West, Rows, Cols, Null, CellType, Multiplier}
use Rattle.cell_ascii_meaning.specs.declared.grid_fault.GridKind.{GridKind}
use Rattle.cell_ascii_meaning.specs.declared.grid_fault.GridKind.TheVariants.{BadHeader, TwiceKey, BadNumber, BadType, LongToken, ReaderStuck, TooFew, TooMany, Read}
use Rattle.cell_ascii_meaning.specs.declared.grid_fault.GridFault.{GridFault}

-- a place: a byte, the end of the text, or a failing read
pub data ByteOrTextEndOrFailedRead : Type 0 where
  Byte : ℕ → ByteOrTextEndOrFailedRead
  End : ByteOrTextEndOrFailedRead
  Fails : ByteOrTextEndOrFailedRead

-- the place is a blank, a line feed or the end
abbrev pub ends_token : ByteOrTextEndOrFailedRead → Bool
ends_token (Byte b) = is_space b
ends_token End = true
ends_token Fails = false

-- the place is a line feed or the end
abbrev pub ends_line : ByteOrTextEndOrFailedRead → Bool
ends_line (Byte b) = is_line_feed b
ends_line End = true
ends_line Fails = false

-- the place is the end
abbrev pub is_end_of_text : ByteOrTextEndOrFailedRead → Bool
is_end_of_text (Byte b) = false
is_end_of_text End = true
is_end_of_text Fails = false

-- the list is empty
abbrev pub is_empty : {X : Type 0} → List X → Bool
is_empty [] = true
is_empty (x ∷ xs) = false

-- the last of these lists, or an empty list if there are none
abbrev pub last_token : {X : Type 0} → List (List X) → List X
last_token [] = []
last_token (p ∷ []) = p
last_token (p ∷ q ∷ ps) = last_token (q ∷ ps)

-- all lists except the last
abbrev pub all_but_last : {X : Type 0} → List X → List X
all_but_last [] = []
all_but_last (p ∷ []) = []
all_but_last (p ∷ q ∷ ps) = p ∷ all_but_last (q ∷ ps)

-- The line, the gap and the token at a place, computed from the bytes before it.

-- the line number, from 1
abbrev pub line_number_of_place : List ℕ → ℕ
line_number_of_place before = 1 + line_feed_count before

-- the length of the run of blanks and line feeds that ends here
abbrev pub gap_length_before_place : List ℕ → ℕ
gap_length_before_place before = suffix_len is_space before

-- the token that the previous byte belongs to; empty after a blank or line feed, and at the start
abbrev pub unfinished_token_before_place : List ℕ → List ℕ
unfinished_token_before_place before = last_token (slice_split is_space before)

-- The rows of the error table. `earlier` holds the words of each earlier line, `line` the words so far of the current
-- line.

-- the error, if the condition holds
abbrev pub fault_kind_if : Bool → GridKind → Option GridKind
fault_kind_if true kind = Some kind
fault_kind_if false kind = None

-- the error, if the value is missing
abbrev pub fault_kind_if_missing : {X : Type 0} → Option X → GridKind → Option GridKind
fault_kind_if_missing (Some x) kind = None
fault_kind_if_missing None kind = Some kind

infixr 20 ◌or◌
-- the first value if there is one, otherwise the second
abbrev pub ◌or◌ : {X : Type 0} → Option X → Option X → Option X
(Some x) or other = Some x
None or other = other

-- `LongToken` at the 65th byte of a token
abbrev pub long_token_fault : List ℕ → ByteOrTextEndOrFailedRead → Option GridKind
long_token_fault token (Byte b) = fault_kind_if (is_word_byte b && length token == 64) LongToken
long_token_fault token End = None
long_token_fault token Fails = None

-- `ReaderStuck` at the 1,048,577th blank or line feed in a row
abbrev pub too_many_blanks_fault : ℕ → ByteOrTextEndOrFailedRead → Option GridKind
too_many_blanks_fault gap (Byte b) = fault_kind_if (is_space b && gap == 1048576) ReaderStuck
too_many_blanks_fault gap End = None
too_many_blanks_fault gap Fails = None

-- the current line is a header line with a key
abbrev pub is_in_header_line : List (List (List ℕ)) → List (List ℕ) → Bool
is_in_header_line earlier line = not (list_any is_data_line earlier) && is_header_line line

-- `BadHeader` at the first byte of a second value
abbrev pub second_header_value_fault : Bool → List (List ℕ) → List ℕ → ByteOrTextEndOrFailedRead → Option GridKind
second_header_value_fault inside line token (Byte b) = fault_kind_if (((is_word_byte b && is_empty token) && inside) && not (is_empty (values_of_header_line line))) BadHeader
second_header_value_fault inside line token End = None
second_header_value_fault inside line token Fails = None

-- `BadHeader` for a null text with a colon
abbrev pub colon_in_null_text_fault : HeaderKey → List ℕ → Option GridKind
colon_in_null_text_fault Null value = fault_kind_if_missing (null_text value) BadHeader
colon_in_null_text_fault other value = None

-- the error of a value that its key does not allow
abbrev pub header_value_fault : HeaderKey → List ℕ → Option GridKind
header_value_fault North value = fault_kind_if_missing (coordinate_of_text value) BadNumber
header_value_fault South value = fault_kind_if_missing (coordinate_of_text value) BadNumber
header_value_fault East value = fault_kind_if_missing (coordinate_of_text value) BadNumber
header_value_fault West value = fault_kind_if_missing (coordinate_of_text value) BadNumber
header_value_fault Rows value = fault_kind_if_missing (row_or_column_count_of_text value) BadNumber
header_value_fault Cols value = fault_kind_if_missing (row_or_column_count_of_text value) BadNumber
header_value_fault Null value = None
header_value_fault CellType value = fault_kind_if_missing (int_type_of_text value) BadType
header_value_fault Multiplier value = fault_kind_if_missing (whole_number_in_category_range value) BadNumber

-- the first error of a header line: `BadHeader`, then `TwiceKey`, then the error of its value
abbrev pub header_line_fault : Bool → Option HeaderKey → List (List ℕ) → Option GridKind
header_line_fault twice None values_of_header_line = Some BadHeader
header_line_fault twice (Some key) [] = Some BadHeader
header_line_fault twice (Some key) (value ∷ values_of_header_line) = colon_in_null_text_fault key value or
    fault_kind_if twice TwiceKey
    or header_value_fault key value

-- one of the earlier lines has the same key as this line
abbrev pub repeats_earlier_key : List (List ℕ) → List (List (List ℕ)) → Bool
repeats_earlier_key line earlier = list_any (λ l. bytes_eq (key_text_of_header_line line)
    (key_text_of_header_line l)) earlier

-- the error of a header line, at its end
abbrev pub fault_at_header_line_end : Bool → List (List (List ℕ)) → List (List ℕ) → ByteOrTextEndOrFailedRead
    → Option GridKind
fault_at_header_line_end inside earlier line place =
    if ends_line place && inside then header_line_fault (repeats_earlier_key line (header_lines earlier)) (header_key_with_name (key_text_of_header_line line)) (values_of_header_line line) else None

-- the values of the keys in these header lines
abbrev pub key_values_of_header_lines : List (List (List ℕ)) → HeaderKeyValues
key_values_of_header_lines lines = record {
  north = option_and_then coordinate_of_text (value_of_header_key (codes "north") lines);
  south = option_and_then coordinate_of_text (value_of_header_key (codes "south") lines);
  east = option_and_then coordinate_of_text (value_of_header_key (codes "east") lines);
  west = option_and_then coordinate_of_text (value_of_header_key (codes "west") lines);
  rows = option_and_then row_or_column_count_of_text (value_of_header_key (codes "rows") lines);
  cols = option_and_then row_or_column_count_of_text (value_of_header_key (codes "cols") lines);
  null = option_and_then null_text (value_of_header_key (codes "null") lines);
  kind = is_some (value_of_header_key (codes "type") lines);
  multiplier = option_and_then whole_number_in_category_range (value_of_header_key (codes "multiplier") lines);
}

-- the header defined by these lines, or the error in it
abbrev pub header_of_lines : List (List (List ℕ)) → Result GridHeaderContents GridKind
header_of_lines lines = header_defined_by_keys (key_values_of_header_lines (header_lines lines))

-- the error of a result
abbrev pub fault_kind_of_result : {X : Type 0} → Result X GridKind → Option GridKind
fault_kind_of_result (Ok x) = None
fault_kind_of_result (Err kind) = Some kind

-- the error of the header, at the end of the first data token or at the end of the text before it
abbrev pub fault_at_header_end : Result GridHeaderContents GridKind → List (List ℕ) → List ℕ
    → ByteOrTextEndOrFailedRead → Option GridKind
fault_at_header_end header words token place =
    if (is_end_of_text place && is_empty words) || ((ends_token place && is_nonempty_word token) && length words == 1) then fault_kind_of_result header else None

-- the error of a data token that is not a cell, if the header is valid
abbrev pub invalid_cell_fault : Result GridHeaderContents GridKind → List (List ℕ) → List ℕ → Option GridKind
invalid_cell_fault (Err kind) words token = None
invalid_cell_fault (Ok h) [] token = None
invalid_cell_fault (Ok h) (word ∷ words) token = fault_kind_of_result (cell_of_word h token)

-- the error of a data token, at its end
abbrev pub cell_fault_at_token_end : Result GridHeaderContents GridKind → List (List ℕ) → List ℕ
    → ByteOrTextEndOrFailedRead → Option GridKind
cell_fault_at_token_end header words token place = if ends_token place
    && is_nonempty_word token then invalid_cell_fault header words token else None

-- there are fewer words than the region of a valid header has cells
abbrev pub has_fewer_words_than_cells : Result GridHeaderContents GridKind → List (List ℕ) → Bool
has_fewer_words_than_cells (Err kind) words = false
has_fewer_words_than_cells (Ok h) words = nat_lt (length words) (h.region.rows * h.region.cols)

-- there are at least as many words as the region of a valid header has cells
abbrev pub has_words_for_all_cells : Result GridHeaderContents GridKind → List (List ℕ) → Bool
has_words_for_all_cells (Err kind) words = false
has_words_for_all_cells (Ok h) words = nat_le (h.region.rows * h.region.cols) (length words)

-- `TooFew` at the end of the text before the last cell
abbrev pub too_few_cells_fault : Result GridHeaderContents GridKind → List (List ℕ) → ByteOrTextEndOrFailedRead
    → Option GridKind
too_few_cells_fault header words (Byte b) = None
too_few_cells_fault header words End = fault_kind_if (has_fewer_words_than_cells header words) TooFew
too_few_cells_fault header words Fails = None

-- `TooMany` at the first byte of a token after the last cell
abbrev pub too_many_cells_fault : Result GridHeaderContents GridKind → List (List ℕ) → List ℕ
    → ByteOrTextEndOrFailedRead → Option GridKind
too_many_cells_fault header words token (Byte b) = fault_kind_if ((is_word_byte b && is_empty token)
    && has_words_for_all_cells header words) TooMany
too_many_cells_fault header words token End = None
too_many_cells_fault header words token Fails = None

-- `Read` at a failing read
abbrev pub failed_read_fault : ByteOrTextEndOrFailedRead → Option GridKind
failed_read_fault (Byte b) = None
failed_read_fault End = None
failed_read_fault Fails = Some Read

-- the error at each place, given the gap before it, the token that may continue, whether the line is a header line, the
-- words of earlier lines and of the current line, the header, and the words of the data
abbrev pub FaultTable : Type 0
FaultTable = ℕ → List ℕ → Bool → List (List (List ℕ)) → List (List ℕ) → Result GridHeaderContents GridKind → List (List ℕ) → ByteOrTextEndOrFailedRead → Option GridKind

-- The full table: if several rows apply to a place, the first of them decides.
abbrev pub full_fault_table : FaultTable
full_fault_table gap token inside earlier line header words place =
    long_token_fault token place
    or too_many_blanks_fault gap place
    or second_header_value_fault inside line token place
    or fault_at_header_line_end inside earlier line place
    or fault_at_header_end header words token place
    or cell_fault_at_token_end header words token place
    or too_few_cells_fault header words place
    or too_many_cells_fault header words token place
    or failed_read_fault place

-- the place is at or before the end of the first token of the data
abbrev pub place_is_up_to_first_data_token : List (List ℕ) → List ℕ → Bool
place_is_up_to_first_data_token words token = is_empty words || (is_nonempty_word token && length words == 1)

-- the rows of the table that do not depend on cells
abbrev pub header_rows_of_fault_table : FaultTable
header_rows_of_fault_table gap token inside earlier line header words place =
    long_token_fault token place
    or too_many_blanks_fault gap place
    or second_header_value_fault inside line token place
    or fault_at_header_line_end inside earlier line place
    or fault_at_header_end header words token place
    or failed_read_fault place

-- the errors up to the end of the first token of the data, and none after it
abbrev pub fault_table_up_to_first_data_token : FaultTable
fault_table_up_to_first_data_token gap token inside earlier line header words place = if place_is_up_to_first_data_token words token then header_rows_of_fault_table gap token inside earlier line header words place else None

-- the error that a table assigns to a place, given the words of each line before it
abbrev pub fault_kind_at_place : FaultTable → ℕ → List ℕ → List (List (List ℕ)) → List (List ℕ) → List (List (List ℕ)) → ByteOrTextEndOrFailedRead → Option GridKind
fault_kind_at_place table gap token earlier line lines place = table gap token (is_in_header_line earlier line) earlier line (header_of_lines lines) (data_words lines) place

-- the error at a place, given the bytes before the place; a token contains no line feed, so each token is in one line
abbrev pub fault_reported_at_place : FaultTable → List ℕ → ByteOrTextEndOrFailedRead → Option GridFault
fault_reported_at_place table before place = option_map (λ kind. grid_fault_at_line kind (line_number_of_place before))
    (fault_kind_at_place table (gap_length_before_place before) (unfinished_token_before_place before) (all_but_last (words_of_each_line before)) (last_token (words_of_each_line before)) (words_of_each_line before) place)

-- the first error at or after the given bytes, in the rest of the text
abbrev pub first_fault_in_rest_of_text : FaultTable → List ℕ → List ℕ → Bool → Option GridFault
first_fault_in_rest_of_text table before [] false = fault_reported_at_place table before End
first_fault_in_rest_of_text table before [] true = fault_reported_at_place table before Fails
first_fault_in_rest_of_text table before (b ∷ bs) fails = fault_reported_at_place table before (Byte b) or first_fault_in_rest_of_text table (before ++ b ∷ []) bs fails

-- the first error of a text
abbrev pub first_fault_of_text : ComingBytes → Option GridFault
first_fault_of_text c = first_fault_in_rest_of_text full_fault_table [] c.bytes c.fails

-- the first error of a text up to the end of its first data token; cells are not checked
abbrev pub first_fault_up_to_first_data_token : ComingBytes → Option GridFault
first_fault_up_to_first_data_token c = first_fault_in_rest_of_text fault_table_up_to_first_data_token [] c.bytes c.fails
