-- The position of a cell reader, and the results of its calls.
use Rattle.std.specs.Prelude.{ℕ, ◌≡◌, ◌+◌, ◌*◌, ◌^◌, ◌<◌, Bool, false, List, [], Option, Some, None, Result, Ok, Err, IfSome, if◌then◌else◌}
use Rattle.cell_core_devices.specs.Device.{ComingBytes}
use Rattle.cell_core.specs.Grid.{CellValue}
use Rattle.cell_ascii_reading.specs.Ahead.{BytesAhead, bytes_to_come_for_content}
use Rattle.cell_ascii_reading.specs.Scan.{ScannerState}
use Rattle.cell_ascii_meaning.specs.GridTokens.{NextWordStart, Begins, Ends, Stops, word_continued_in_bytes}
use Rattle.cell_ascii_meaning.specs.GridTokens.{grid_fault_at_line}
use Rattle.cell_ascii_meaning.specs.Header.{◌>>=◌, DataPosition, GridHeaderContents, HeaderAndDataStart}
use Rattle.cell_ascii_meaning.specs.CellTexts.{ReadValueAndPositionOrFault, next_cell_after_position}
use Rattle.cell_ascii_meaning.specs.CellTexts.{items_read_one_after_another}
use Rattle.cell_ascii_meaning.specs.RowPlaces.{IsValidDataPosition}
use Rattle.cell_ascii.specs.GridReaders.{GridReaderValue, position_of_grid_reader}
use Rattle.cell_ascii_meaning.specs.declared.grid_fault.GridKind.TheVariants.{TooFew}
use Rattle.cell_ascii_meaning.specs.declared.grid_fault.GridFault.{GridFault}

-- the header, a pending word, the line, the length of the current run of blanks and line feeds, and the bytes ahead
pub record CellReaderValue : Type 0 where
  pub header : GridHeaderContents
  pub pending : Option (List ℕ)
  pub line : ℕ
  pub run : ℕ
  pub ahead : BytesAhead

-- the reader's position in the text
abbrev pub position_of_cell_reader : CellReaderValue → ComingBytes → DataPosition
position_of_cell_reader p c = record { pending = p.pending; line = p.line; run = p.run; coming = c }

-- the header that was read, and the position at which the data begins
abbrev pub header_and_start_of_cell_reader : CellReaderValue → ComingBytes → HeaderAndDataStart
header_and_start_of_cell_reader p c = record { header = p.header; at = position_of_cell_reader p c }

-- the header and the scanner's position after the first word of the data, if there is one
abbrev pub header_and_data_start_by_scanner : GridHeaderContents × Bool → ScannerState → ComingBytes
    → HeaderAndDataStart
header_and_data_start_by_scanner (header, waiting) s c =
    record { header = header; at = record { pending = (if waiting then Some s.word else None); line = s.line; run = 0; coming = c } }

-- the next word and its line
abbrev pub next_word_with_line : NextWordStart → Result (ℕ × (List ℕ × ComingBytes)) GridFault
next_word_with_line (Begins line c) = word_continued_in_bytes line [] c >>= (λ w. Ok (line, w))
next_word_with_line (Ends line) = Err (grid_fault_at_line TooFew line)
next_word_with_line (Stops f) = Err f

-- the next word and its line, or the error, as a call of the scanner reports them
abbrev pub word_and_line_from_scanner_result : Result (Unit {0}) GridFault → ℕ → List ℕ → ComingBytes
    → Result (ℕ × (List ℕ × ComingBytes)) GridFault
word_and_line_from_scanner_result (Ok u) line word c = Ok (line, (word, c))
word_and_line_from_scanner_result (Err f) line word c = Err f

-- the value that was read and the position after it, or the error
abbrev pub value_and_position_or_fault : {X : Type 0} → Result X GridFault → CellReaderValue → ComingBytes
    → ReadValueAndPositionOrFault X
value_and_position_or_fault (Ok x) p c = Ok (x, position_of_cell_reader p c)
value_and_position_or_fault (Err f) p c = Err f

-- a value that does not depend on the bytes to come
abbrev pub value_for_any_coming_bytes : {X : Type 0} → X → ComingBytes → X
value_for_any_coming_bytes x c = x

-- a row reader at a position of a cell reader
abbrev pub grid_reader_at_cell_position : CellReaderValue → ℕ → Bool → GridReaderValue
grid_reader_at_cell_position p rows_left failed =
    record { header = p.header; rows_left = rows_left; pending = p.pending; line = p.line; run = p.run; failed = failed; ahead = p.ahead }

-- the reader is at a valid position of the text, and no token is pending after the last row
abbrev pub ReaderIsAtValidPosition : GridReaderValue → Type 0
ReaderIsAtValidPosition r = (h : ComingBytes) → IfSome (bytes_to_come_for_content r.ahead h) (λ c. IsValidDataPosition (position_of_grid_reader r c) × (r.rows_left ≡ 0 → r.pending ≡ None))

-- a reader that can continue: its line numbers cannot overflow, its position is valid, and its source has not failed
pub record ReaderCanContinue (r : GridReaderValue) : Type 0 where
  pub wide : 0 < r.header.region.cols
  pub lines : r.failed ≡ false → r.line + (r.rows_left * r.header.region.cols + 1) * 1048577 < 2 ^ 63
  pub placed : r.failed ≡ false → ReaderIsAtValidPosition r
  pub heard : r.failed ≡ false → r.ahead.heard.failed ≡ false

-- the rows of the data
abbrev pub rows_read_from_position : GridHeaderContents → DataPosition
    → ReadValueAndPositionOrFault (List (List CellValue))
rows_read_from_position h at = items_read_one_after_another (items_read_one_after_another
    (next_cell_after_position h) h.region.cols) h.region.rows at
