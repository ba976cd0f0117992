-- Worked texts: the map that each text denotes, or its error.
use Rattle.std.proofs.Common.{◌≡◌, Bool, true, false, ℕ, List, [], ◌∷◌, ◌++◌, Option, Some, None, refl, Ok, pos, negsuc}
use Rattle.std.specs.Prelude.{codes}
use Rattle.std.specs.List.{flat_map}
use Rattle.cell_core.specs.Grid.{Grid, empty_category_labels}
use Rattle.cell_core_values.specs.declared.region.RegionFault.TheVariants.{BadExtent, BadRows}
use Rattle.cell_ascii_meaning.specs.GridTokens.{next_word_start, word_continued_in_bytes, grid_fault_at_line}
use Rattle.cell_ascii_meaning.specs.Header.{DataPosition, GridHeaderContents, rest_of_header_from_line}
use Rattle.cell_ascii_meaning.specs.Header.{end_of_continued_blank_run}
use Rattle.cell_ascii_meaning.specs.CellTexts.{next_cell_after_position, map_denoted_by_text}
use Rattle.cell_ascii_meaning.specs.GridText.{SourceDenotesMap}
use Rattle.cell_ascii_meaning.specs.RowPlaces.{first_fault_of_next_cells, first_fault_after_last_cell}
use Rattle.cell_ascii_meaning.specs.FaultPlaces.{Byte, too_many_blanks_fault, first_fault_of_text}
use Rattle.cell_ascii_meaning.specs.FaultPlaces.{first_fault_up_to_first_data_token}
use Rattle.cell_ascii_meaning.specs.declared.grid_fault.GridFault.{GridFault}
use Rattle.cell_ascii_meaning.specs.declared.grid_fault.GridKind.TheVariants.{BadHeader, TwiceKey, MissingKey, BadNumber, BadType, Region, BadCell, CellRange, TooFew, TooMany, Read, LongToken, ReaderStuck}
use Rattle.cell_ascii_law.proofs.GridLawLemmas.{reading_agrees}

-- each line followed by a line feed
abbrev lines : List (List ℕ) → List ℕ
lines ls = flat_map (λ l. l ++ 10 ∷ []) ls

abbrev of : List ℕ → Option GridFault
of bs = first_fault_of_text (record { bytes = bs; fails = false })

abbrev header : List (List ℕ) → List (List ℕ) → List ℕ
header rows more = lines (codes "north: 3" ∷ codes "south: 0" ∷ codes "east: 4" ∷ codes "west: 0" ∷ rows ++ codes "cols: 4" ∷ more)

abbrev grid : List (List ℕ) → List ℕ
grid more = header (codes "rows: 3" ∷ []) more

-- cells
good : of (grid (codes "1 1 2 *" ∷ codes "1 2 2 2" ∷ codes "3 3 1 1" ∷ [])) ≡ None
good = refl

few : of (grid (codes "1 1 2 *" ∷ codes "1 2 2 2" ∷ codes "3 3 1" ∷ [])) ≡ Some (grid_fault_at_line TooFew 10)
few = refl

many : of (grid (codes "1 1 2 *" ∷ codes "1 2 2 2" ∷ codes "3 3 1 1 5" ∷ [])) ≡ Some (grid_fault_at_line TooMany 9)
many = refl

bad : of (grid (codes "1 1 2 *" ∷ codes "1 2 2 2" ∷ codes "3 3 x 1" ∷ [])) ≡ Some (grid_fault_at_line BadCell 9)
bad = refl

no_cells : of (grid []) ≡ Some (grid_fault_at_line TooFew 7)
no_cells = refl

fails : first_fault_of_text (record { bytes = grid (codes "1 1 2 *" ∷ codes "1 2" ∷ []); fails = true }) ≡ Some (grid_fault_at_line Read 9)
fails = refl

-- header lines
values_of_two_words : of (codes "north: 3 4") ≡ Some (grid_fault_at_line BadHeader 1)
values_of_two_words = refl

abbrev digits : List ℕ
digits = codes "1234567890123456789012345678901234567890123456789012345678901234"

two_values_first : of (codes "north: 3 " ++ (digits ++ codes "5")) ≡ Some (grid_fault_at_line BadHeader 1)
two_values_first = refl

no_value : of (codes "north:" ++ 10 ∷ []) ≡ Some (grid_fault_at_line BadHeader 1)
no_value = refl

unknown : of (10 ∷ codes " northh:3") ≡ Some (grid_fault_at_line BadHeader 2)
unknown = refl

twice : of (lines (codes " rows:3" ∷ codes "rows:x" ∷ [])) ≡ Some (grid_fault_at_line TwiceKey 2)
twice = refl

colon : of (lines (codes "null: *" ∷ codes "null: a:b" ∷ [])) ≡ Some (grid_fault_at_line BadHeader 2)
colon = refl

type_twice : of (lines (codes "type: int" ∷ codes "type: float" ∷ [])) ≡ Some (grid_fault_at_line TwiceKey 2)
type_twice = refl

long_number : of (codes "north: 12345678901" ++ 10 ∷ []) ≡ Some (grid_fault_at_line BadNumber 1)
long_number = refl

long_rows : of (header (codes "rows: 99999999999" ∷ []) []) ≡ Some (grid_fault_at_line BadNumber 5)
long_rows = refl

less_rows : of (header (codes "rows: -1" ∷ []) (codes "1 1 2 *" ∷ [])) ≡ Some (grid_fault_at_line (Region BadRows) 7)
less_rows = refl

extent : of (lines (codes "north: 0" ∷ codes "south: 0" ∷ codes "east: 4" ∷ codes "west: 0" ∷ codes "rows: 3" ∷ codes "cols: 4" ∷ [])) ≡ Some (grid_fault_at_line (Region BadExtent) 7)
extent = refl

empty : of [] ≡ Some (grid_fault_at_line MissingKey 1)
empty = refl

missing : of (lines (codes "rows: 3" ∷ codes "1 2" ∷ [])) ≡ Some (grid_fault_at_line MissingKey 2)
missing = refl

-- the type, the null text and the multiplier
int : of (codes "type: int" ++ 10 ∷ grid (codes "1 1 2 *" ∷ codes "1 2 2 2" ∷ codes "3 3 1 1" ∷ [])) ≡ None
int = refl

float : of (grid (codes "type: float" ∷ [])) ≡ Some (grid_fault_at_line BadType 7)
float = refl

abbrev row_of : List ℕ → List ℕ → List ℕ
row_of multiplier cells = lines (codes "north: 3" ∷ codes "south: 0" ∷ codes "east: 4" ∷ codes "west: 0" ∷ codes "rows: 1" ∷ codes "cols: 3" ∷ codes "null: -9" ∷ (codes "multiplier: " ++ multiplier) ∷ cells ∷ [])

other_null : of (row_of (codes "3") (codes "* 9 -2")) ≡ Some (grid_fault_at_line BadCell 9)
other_null = refl

range : of (row_of (codes "2") (codes "1073741824 1 1")) ≡ Some (grid_fault_at_line CellRange 9)
range = refl

half : of (row_of (codes "0.5") (codes "1 1 1")) ≡ Some (grid_fault_at_line BadNumber 8)
half = refl

abbrev row : Grid
row = record { region = record { north = pos 300000000; south = pos 0; east = pos 400000000; west = pos 0; rows = 1; cols = 3 }; rows = (None ∷ Some (pos 27) ∷ Some (negsuc 5) ∷ []) ∷ []; labels = empty_category_labels }

row_read : map_denoted_by_text (record { bytes = row_of (codes "3") (codes "-9 9 -2"); fails = false }) ≡ Ok row
unfolding next_word_start word_continued_in_bytes rest_of_header_from_line end_of_continued_blank_run
    next_cell_after_position
    map_denoted_by_text
row_read = refl

row_denoted : SourceDenotesMap (record { bytes = row_of (codes "3") (codes "-9 9 -2"); fails = false }) row
row_denoted = (reading_agrees (record { bytes = row_of (codes "3") (codes "-9 9 -2"); fails = false }) row).0 row_read

-- without a null text and a multiplier, they are an asterisk and 1
abbrev plain_text : List ℕ
plain_text = 10 ∷ codes "north: 2.5" ++ 13 ∷ 10 ∷ codes "south:0" ++ 10 ∷ 32 ∷ 10 ∷ codes " east:1" ++ 10 ∷ codes "west: -1" ++ 10 ∷ codes "rows: 2" ++ 10 ∷ codes "cols:2" ++ 10 ∷ codes " 1 * -7" ++ 10 ∷ 10 ∷ codes "+4" ++ 10 ∷ []

abbrev plain_grid : Grid
plain_grid = record { region = record { north = pos 250000000; south = pos 0; east = pos 100000000; west = negsuc 99999999; rows = 2; cols = 2 }; rows = (Some (pos 1) ∷ None ∷ []) ∷ (Some (negsuc 6) ∷ Some (pos 4) ∷ []) ∷ []; labels = empty_category_labels }

plain_read : map_denoted_by_text (record { bytes = plain_text; fails = false }) ≡ Ok plain_grid
unfolding next_word_start word_continued_in_bytes rest_of_header_from_line end_of_continued_blank_run
    next_cell_after_position
    map_denoted_by_text
plain_read = refl

-- the error of opening a text, which checks no cell
abbrev opens : List ℕ → Option GridFault
opens bs = first_fault_up_to_first_data_token (record { bytes = bs; fails = false })

opens_bad : opens (grid (codes "x" ∷ [])) ≡ None
opens_bad = refl

opens_long : opens (grid ((digits ++ codes "5") ∷ [])) ≡ Some (grid_fault_at_line LongToken 7)
opens_long = refl

opens_later : opens (grid (codes "1" ∷ (digits ++ codes "5") ∷ [])) ≡ None
opens_later = refl

opens_none : opens (grid []) ≡ None
opens_none = refl

opens_empty : opens [] ≡ Some (grid_fault_at_line MissingKey 1)
opens_empty = refl

-- limits
long_token_fault : of (grid ((digits ++ codes "5") ∷ [])) ≡ Some (grid_fault_at_line LongToken 7)
long_token_fault = refl

longest_token : of (grid (digits ∷ [])) ≡ Some (grid_fault_at_line CellRange 7)
longest_token = refl

too_wide : too_many_blanks_fault 1048576 (Byte 32) ≡ Some ReaderStuck
too_wide = refl

widest : too_many_blanks_fault 1048575 (Byte 32) ≡ None
widest = refl

-- the next cells, and the end
abbrev behind : Option (List ℕ) → List ℕ → Bool → DataPosition
behind pending bs fails = record { pending = pending; line = 8; run = 0; coming = record { bytes = bs; fails = fails } }

abbrev head : GridHeaderContents
head = record { region = record { north = pos 3; south = pos 0; east = pos 3; west = pos 0; rows = 1; cols = 3 }; null_text = codes "*"; multiplier = pos 1 }

cells_few : first_fault_of_next_cells head 3 (behind (Some (codes "1")) (codes " 2") false)
    ≡ Some (grid_fault_at_line TooFew 8)
cells_few = refl

cells_bad : first_fault_of_next_cells head 3 (behind (Some (codes "x")) (codes " 2") false)
    ≡ Some (grid_fault_at_line BadCell 8)
cells_bad = refl

cells_next : first_fault_of_next_cells head 1 (behind (Some (codes "1")) (10 ∷ codes "x") false) ≡ None
cells_next = refl

cells_later : first_fault_of_next_cells head 2 (behind (Some (codes "1")) (10 ∷ codes "x") false)
    ≡ Some (grid_fault_at_line BadCell 9)
cells_later = refl

cells_read : first_fault_of_next_cells head 2 (behind None (codes "1") true) ≡ Some (grid_fault_at_line Read 8)
cells_read = refl

end_many : first_fault_after_last_cell (behind None (10 ∷ digits ++ codes "5") false)
    ≡ Some (grid_fault_at_line TooMany 9)
end_many = refl

end_good : first_fault_after_last_cell (behind None (10 ∷ 32 ∷ []) false) ≡ None
end_good = refl
