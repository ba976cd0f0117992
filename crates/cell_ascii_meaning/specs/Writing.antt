-- The grid text of a map (r.out.ascii manual: header lines, then the cells row by row; the format of numbers, the line
-- of the null text, and rows without a trailing space are our own).
use Rattle.std.specs.Prelude.{ℕ, ℤ, pos, negsuc, suc, ◌≡◌, ◌+◌, ◌-◌, ◌/◌, ◌%◌, ◌≤◌, false, ◌==◌, List, [], ◌∷◌, ◌++◌, length, map, flat_map, drop, take, reverse, IsTrue, bytes_eq, codes, decimal, if◌then◌else◌}
use Rattle.std.specs.List.{list_all, join_with_byte, prefix_len}
use Rattle.cell_core_values.specs.Letters.{byte}
use Rattle.cell_core_values.specs.Region.{RegionValue}
use Rattle.cell_core.specs.Grid.{CellValue, Grid}
use Rattle.cell_core.specs.Text.{cell_text}
use Rattle.cell_ascii_meaning.specs.GridTokens.{is_word_byte}
use Rattle.cell_ascii_meaning.specs.Header.{has_colon, usual_null_text}

-- the digits without trailing zeros
abbrev pub digits_without_trailing_zeros : List ℕ → List ℕ
digits_without_trailing_zeros digits = take (length digits - prefix_len (λ b. b == byte (codes "0"))
    (reverse digits)) digits

-- the text of a fraction of 10^8: a point and up to eight digits, without trailing zeros; empty if the fraction is 0
abbrev pub fraction_text : ℕ → List ℕ
fraction_text part = if part == 0 then [] else byte (codes ".")
    ∷ digits_without_trailing_zeros (drop 1 (decimal (100000000 + part)))

-- the text of a non-negative number that is given in units of 10^-8
abbrev pub unsigned_coordinate_text : ℕ → List ℕ
unsigned_coordinate_text n = decimal (n / 100000000) ++ fraction_text (n % 100000000)

-- the text of a coordinate: a minus sign if it is negative, its whole part, and its fraction if that is not 0
abbrev pub coordinate_text : ℤ → List ℕ
coordinate_text (pos n) = unsigned_coordinate_text n
coordinate_text (negsuc n) = byte (codes "-") ∷ unsigned_coordinate_text (suc n)

-- the header line of a key
abbrev pub key_line : List ℕ → List ℕ → List ℕ
key_line key value = key ++ codes ": " ++ value ++ codes "\n"

-- the six header lines of a region
abbrev pub header_lines_of_region : RegionValue → List ℕ
header_lines_of_region e =
    key_line (codes "north") (coordinate_text e.north)
    ++ key_line (codes "south") (coordinate_text e.south)
    ++ key_line (codes "east") (coordinate_text e.east)
    ++ key_line (codes "west") (coordinate_text e.west)
    ++ key_line (codes "rows") (decimal e.rows)
    ++ key_line (codes "cols") (decimal e.cols)

-- the header line of the null text, unless it is the default
abbrev pub null_text_header_line : List ℕ → List ℕ
null_text_header_line null_text = if bytes_eq null_text usual_null_text then [] else key_line (codes "null") null_text

-- the cells of a row, separated by single spaces
abbrev pub row_text : List ℕ → List CellValue → List ℕ
row_text null_text row = join_with_byte (byte (codes " ")) (map (cell_text null_text) row) ++ codes "\n"

-- the grid text of a map with this null text
abbrev pub grid_text : List ℕ → Grid → List ℕ
grid_text null_text m = header_lines_of_region m.region ++ null_text_header_line null_text
    ++ flat_map (row_text null_text) m.rows

-- the null text is valid: 1 to 64 bytes without blanks, line feeds and colons
pub record IsValidNullText (null_text : List ℕ) : Type 0 where
  pub some : 1 ≤ length null_text
  pub most : length null_text ≤ 64
  pub word : IsTrue (list_all is_word_byte null_text)
  pub colon : has_colon null_text ≡ false
