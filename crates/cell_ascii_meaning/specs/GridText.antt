-- The maps that texts denote (r.in.ascii manual: header lines, then the cells row by row; the limits are our own).
use Rattle.std.specs.Prelude.{ℕ, ◌≡◌, ◌+◌, ◌*◌, ◌<◌, ◌≤◌, Bool, true, false, not, ◌==◌, List, [], ◌∷◌, ◌++◌, length, map, drop, All, Option, Some, None, Ok, IsTrue, IsSome, bytes_eq, codes, slice_get, if◌then◌else◌}
use Rattle.std.specs.List.{slice_split, filter, flat_map, list_all, find, take_while, prefix_len, before_first, after_first, IsDistinct}
use Rattle.std.specs.Option.{option_and_then, option_map}
use Rattle.cell_core_devices.specs.Device.{ComingBytes}
use Rattle.cell_core_values.specs.Region.{region_or_first_fault}
pub use Rattle.cell_core_values.specs.Words.{is_nonempty_word}
use Rattle.cell_core.specs.Grid.{Grid, RowsFillRegion, cell_at, empty_category_labels}
use Rattle.cell_ascii_meaning.specs.EdgeNumbers.{coordinate_of_text, row_or_column_count_of_text}
use Rattle.cell_ascii_meaning.specs.EdgeNumbers.{whole_number_in_category_range}
use Rattle.cell_ascii_meaning.specs.KeyNames.{header_key_with_name}
use Rattle.cell_ascii_meaning.specs.GridWords.{is_line_feed, GridHeaderContents, is_space, is_colon, has_colon, is_int_type, usual_null_text, usual_multiplier, cell_of_word}

-- the lines of a text, separated by line feeds
abbrev pub lines_of_text : List ℕ → List (List ℕ)
lines_of_text text = slice_split is_line_feed text

-- the words of a text: its longest runs of bytes other than blanks and line feeds
abbrev pub words_of_grid_text : List ℕ → List (List ℕ)
words_of_grid_text text = filter is_nonempty_word (slice_split is_space text)

-- the words of each line
abbrev pub words_of_each_line : List ℕ → List (List (List ℕ))
words_of_each_line text = map words_of_grid_text (lines_of_text text)

-- the line's first word has no colon, so the line belongs to the data
abbrev pub is_data_line : List (List ℕ) → Bool
is_data_line [] = false
is_data_line (word ∷ words) = not (has_colon word)

-- the line's first word has a colon, so the line is a header line if it precedes the data
abbrev pub is_header_line : List (List ℕ) → Bool
is_header_line [] = false
is_header_line (word ∷ words) = has_colon word

-- the header lines before the data, each as a list of words
abbrev pub header_lines : List (List (List ℕ)) → List (List (List ℕ))
header_lines lines = filter is_header_line (take_while (λ l. not (is_data_line l)) lines)

-- the words of the data
abbrev pub data_words : List (List (List ℕ)) → List (List ℕ)
data_words lines = flat_map (λ l. l) (drop (prefix_len (λ l. not (is_data_line l)) lines) lines)

-- the text before the first colon of a header line
abbrev pub key_text_of_header_line : List (List ℕ) → List ℕ
key_text_of_header_line [] = []
key_text_of_header_line (word ∷ words) = before_first is_colon word

-- the words after the first colon of a header line
abbrev pub values_of_header_line : List (List ℕ) → List (List ℕ)
values_of_header_line [] = []
values_of_header_line (word ∷ words) = filter is_nonempty_word (after_first is_colon word ∷ words)

-- the first value of the header line with this key
abbrev pub value_of_header_key : List ℕ → List (List (List ℕ)) → Option (List ℕ)
value_of_header_key key lines = option_and_then (λ l. slice_get (values_of_header_line l) 0)
    (find (λ l. bytes_eq key (key_text_of_header_line l)) lines)

-- the value that was read, or the default if there is none
abbrev pub read_value_or_default : {X : Type 0} → (List ℕ → Option X) → X → Option (List ℕ) → Option X
read_value_or_default read usual None = Some usual
read_value_or_default read usual (Some value) = read value

-- a null text: any word without a colon
abbrev pub null_text : List ℕ → Option (List ℕ)
null_text value = if has_colon value then None else Some value

-- the only supported type, `int`
abbrev pub int_type_of_text : List ℕ → Option (Unit {0})
int_type_of_text value = if is_int_type value then Some tt else None

-- the lines have known keys, each key once with one value, and these values form the header `h`
pub record HeaderLinesFormHeader (lines : List (List (List ℕ))) (h : GridHeaderContents) : Type 0 where
  pub one_value : All (λ l. length (values_of_header_line l) ≡ 1) lines
  pub known : All (λ l. IsSome (header_key_with_name (key_text_of_header_line l))) lines
  pub once : IsDistinct bytes_eq (map key_text_of_header_line lines)
  pub north : option_and_then coordinate_of_text (value_of_header_key (codes "north") lines) ≡ Some h.region.north
  pub south : option_and_then coordinate_of_text (value_of_header_key (codes "south") lines) ≡ Some h.region.south
  pub east : option_and_then coordinate_of_text (value_of_header_key (codes "east") lines) ≡ Some h.region.east
  pub west : option_and_then coordinate_of_text (value_of_header_key (codes "west") lines) ≡ Some h.region.west
  pub rows : option_and_then row_or_column_count_of_text (value_of_header_key (codes "rows") lines) ≡ Some h.region.rows
  pub cols : option_and_then row_or_column_count_of_text (value_of_header_key (codes "cols") lines) ≡ Some h.region.cols
  pub null : read_value_or_default null_text usual_null_text (value_of_header_key (codes "null") lines)
      ≡ Some h.null_text
  pub int : read_value_or_default int_type_of_text tt (value_of_header_key (codes "type") lines) ≡ Some tt
  pub multiplier : read_value_or_default whole_number_in_category_range usual_multiplier
      (value_of_header_key (codes "multiplier") lines) ≡ Some h.multiplier
  pub good : region_or_first_fault h.region ≡ Ok h.region

-- word number r * cols + c denotes the cell at row r and column c, and there are no other words
pub record WordsDenoteCells (h : GridHeaderContents) (words : List (List ℕ)) (grid : Grid) : Type 0 where
  pub count : length words ≡ h.region.rows * h.region.cols
  pub shape : RowsFillRegion h.region grid.rows
  pub each : (r c : ℕ) → r < h.region.rows → c < h.region.cols
      → option_map (cell_of_word h) (slice_get words (r * h.region.cols + c)) ≡ Some (Ok (cell_at grid r c))

-- no word is longer than 64 bytes, and no run of blanks and line feeds is longer than 1,048,576 bytes
pub record AreWordsAndBlanksWithinLimits (text : List ℕ) : Type 0 where
  pub words : All (λ w. length w ≤ 64) (words_of_grid_text text)
  pub gaps : (front gap back : List ℕ) → text ≡ front ++ (gap ++ back) → IsTrue (list_all is_space gap) → length gap ≤ 1048576

-- the source ends without an error, and its bytes denote the map
pub record SourceDenotesMap (c : ComingBytes) (grid : Grid) : Type 0 where
  pub said : GridHeaderContents
  pub ends : c.fails ≡ false
  pub limits : AreWordsAndBlanksWithinLimits c.bytes
  pub header : HeaderLinesFormHeader (header_lines (words_of_each_line c.bytes)) said
  pub cells : WordsDenoteCells said (data_words (words_of_each_line c.bytes)) grid
  pub region : grid.region ≡ said.region
  pub labels : grid.labels ≡ empty_category_labels
