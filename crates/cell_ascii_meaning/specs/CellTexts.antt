-- The data of a grid text, read from the bytes to come: words one after another, then the end (r.in.ascii manual).
pub use Rattle.cell_ascii_meaning.specs.GridWords.{cell_of_number, cell_of_word}
use Rattle.std.specs.Prelude.{ℕ, zero, suc, List, [], ◌∷◌, Option, Some, None, Result, Ok, Err}
use Rattle.cell_core_devices.specs.Device.{ComingBytes}
use Rattle.cell_core.specs.Grid.{CellValue, Grid, empty_category_labels}
use Rattle.cell_ascii_meaning.specs.GridTokens.{NextWordStart, Begins, Ends, Stops, next_word_start}
use Rattle.cell_ascii_meaning.specs.GridTokens.{word_continued_in_bytes, grid_fault_at_line}
use Rattle.cell_ascii_meaning.specs.Header.{DataPosition, GridHeaderContents, header_of_text, ◌>>=◌}
use Rattle.cell_ascii_meaning.specs.declared.grid_fault.GridKind.{GridKind}
use Rattle.cell_ascii_meaning.specs.declared.grid_fault.GridKind.TheVariants.{TooFew, TooMany}
use Rattle.cell_ascii_meaning.specs.declared.grid_fault.GridFault.{GridFault}

-- the value that was read and the position after it, or the first error
abbrev pub ReadValueAndPositionOrFault : Type 0 → Type 0
ReadValueAndPositionOrFault X = Result (X × DataPosition) GridFault

-- a position in the data without a pending word
abbrev pub position_without_pending_word : ℕ → ℕ → ComingBytes → DataPosition
position_without_pending_word line run c = record { pending = None; line = line; run = run; coming = c }

-- the cell and the position after it, or an error at the word's line
abbrev pub cell_and_position_after_word : ℕ → ComingBytes → Result CellValue GridKind
    → ReadValueAndPositionOrFault CellValue
cell_and_position_after_word line c (Ok v) = Ok (v, position_without_pending_word line 0 c)
cell_and_position_after_word line c (Err kind) = Err (grid_fault_at_line kind line)

-- the cell of a word that begins at `line`, or the first error of the word or of its cell
abbrev pub cell_of_word_at_line : GridHeaderContents → ℕ → Result (List ℕ × ComingBytes) GridFault
    → ReadValueAndPositionOrFault CellValue
cell_of_word_at_line h line (Ok x) = cell_and_position_after_word line x.1 (cell_of_word h x.0)
cell_of_word_at_line h line (Err f) = Err f

-- the cell of the next word, or the error if no word begins
abbrev pub cell_at_word_start : GridHeaderContents → NextWordStart → ReadValueAndPositionOrFault CellValue
cell_at_word_start h (Begins line c) = cell_of_word_at_line h line (word_continued_in_bytes line [] c)
cell_at_word_start h (Ends line) = Err (grid_fault_at_line TooFew line)
cell_at_word_start h (Stops f) = Err f

-- the next cell: from the pending word if there is one, otherwise from the next word
unfoldable pub next_cell_after_position : GridHeaderContents → DataPosition → ReadValueAndPositionOrFault CellValue
next_cell_after_position h at = next at.pending
  where
    next : Option (List ℕ) → ReadValueAndPositionOrFault CellValue
    next (Some word) = cell_and_position_after_word at.line at.coming (cell_of_word h word)
    next None = cell_at_word_start h (next_word_start at.line at.run at.coming)

-- n items, read one after another
abbrev pub items_read_one_after_another : {X : Type 0} → (DataPosition → ReadValueAndPositionOrFault X) → ℕ
    → DataPosition → ReadValueAndPositionOrFault (List X)
items_read_one_after_another one zero at = Ok ([], at)
items_read_one_after_another one (suc n) at = one at >>= (λ x. items_read_one_after_another one n x.1 >>=
    (λ y. Ok (x.0 ∷ y.0, y.1)))

-- only blanks and line feeds are left
abbrev pub text_end_or_fault : NextWordStart → Result (Unit {0}) GridFault
text_end_or_fault (Begins line c) = Err (grid_fault_at_line TooMany line)
text_end_or_fault (Ends line) = Ok tt
text_end_or_fault (Stops f) = Err f

-- the rows of a grid, followed by the end of the text
abbrev pub data_rows_to_text_end : GridHeaderContents → DataPosition → Result (List (List CellValue)) GridFault
data_rows_to_text_end h at =
    items_read_one_after_another (items_read_one_after_another (next_cell_after_position h) h.region.cols) h.region.rows at >>= (λ x. text_end_or_fault (next_word_start x.1.line x.1.run x.1.coming) >>= (λ _. Ok x.0))

-- the map that a text denotes, or the first error, found by reading forward, as a reader must
unfoldable pub map_denoted_by_text : ComingBytes → Result Grid GridFault
map_denoted_by_text c =
    header_of_text c >>= (λ o. data_rows_to_text_end o.header o.at >>= (λ rows. Ok (record { region = o.header.region; rows = rows; labels = empty_category_labels })))
