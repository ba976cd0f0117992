-- The terms used for grid texts: blanks, colons, headers, and the cell of a word (r.in.ascii manual).
use Rattle.std.specs.Prelude.{ℕ, ℤ, pos, ◌*ℤ◌, Bool, ◌||◌, ◌==◌, List, Option, Some, None, Result, Ok, Err, if◌then◌else◌, bytes_eq, codes}
use Rattle.std.specs.List.{list_any}
use Rattle.cell_core_values.specs.Letters.{byte}
use Rattle.cell_core.specs.Grid.{CellValue}
use Rattle.cell_core_values.specs.Region.{RegionValue}
use Rattle.cell_ascii_meaning.specs.EdgeNumbers.{whole_number_of_text, is_in_category_range}
use Rattle.cell_ascii_meaning.specs.declared.grid_fault.GridKind.{GridKind}
use Rattle.cell_ascii_meaning.specs.declared.grid_fault.GridKind.TheVariants.{BadCell, CellRange}

-- the byte is a line feed
abbrev pub is_line_feed : ℕ → Bool
is_line_feed b = b == byte (codes "\n")

-- the byte is a space, a tab, a carriage return or a line feed
abbrev pub is_space : ℕ → Bool
is_space b = (b == byte (codes " ") || b == byte (codes "\t")) || (b == byte (codes "\r") || is_line_feed b)

-- the byte is a colon
abbrev pub is_colon : ℕ → Bool
is_colon b = b == byte (codes ":")

-- the text contains a colon
abbrev pub has_colon : List ℕ → Bool
has_colon text = list_any is_colon text

-- the value is `int`, the only supported type
abbrev pub is_int_type : List ℕ → Bool
is_int_type value = bytes_eq value (codes "int")

-- a header: the region, the null text and the multiplier
pub record GridHeaderContents : Type 0 where
  pub region : RegionValue
  pub null_text : List ℕ
  pub multiplier : ℤ

-- the default null text, an asterisk
abbrev pub usual_null_text : List ℕ
usual_null_text = codes "*"

-- the default multiplier, which leaves cells unchanged
abbrev pub usual_multiplier : ℤ
usual_multiplier = pos 1

-- the product of a number and the multiplier, if both are in range
abbrev pub cell_of_number : ℤ → Option ℤ → Result CellValue GridKind
cell_of_number multiplier None = Err BadCell
cell_of_number multiplier (Some n) =
    if is_in_category_range n then (if is_in_category_range (n *ℤ multiplier) then Ok (Some (n *ℤ multiplier)) else Err CellRange) else Err CellRange

-- the cell that a word denotes: null if it is the null text, otherwise a number
abbrev pub cell_of_word : GridHeaderContents → List ℕ → Result CellValue GridKind
cell_of_word h word = if bytes_eq word h.null_text then Ok None else cell_of_number h.multiplier
    (whole_number_of_text word)
