-- The state of an open grid reader, and the results of its calls.
use Rattle.std.specs.Prelude.{ℕ, ◌≡◌, ◌≢◌, ◌<◌, Bool, true, false, List, length, take, drop, Option, Some, None, Result, Ok, Err, IfErr}
use Rattle.std.specs.Option.{IsSome}
use Rattle.cell_core_devices.specs.Asking.{source_is_in_assumed_state}
use Rattle.cell_core_devices.specs.Device.{ComingBytes}
use Rattle.cell_core_devices.specs.declared.source.Asked.{Asked}
use Rattle.cell_core_devices.specs.declared.source.Asked.TheVariants.{Going, Again}
use Rattle.cell_core.specs.Grid.{CellValue}
use Rattle.cell_ascii_meaning.specs.Header.{DataPosition, GridHeaderContents, HeaderAndDataStart, header_of_text}
use Rattle.cell_ascii_meaning.specs.CellTexts.{next_cell_after_position, items_read_one_after_another}
use Rattle.cell_ascii_meaning.specs.GridTokens.{grid_fault_at_line}
use Rattle.cell_ascii_meaning.specs.RowPlaces.{first_fault_after_last_cell}
use Rattle.cell_core_devices.specs.Supposed.{SupposedContent, content_to_come, HoldsForAgreeingContents}
use Rattle.cell_core_devices.specs.Supposed.{EqualBeforeAndAfterReads}
use Rattle.cell_ascii_reading.specs.Ahead.{BytesAhead, bytes_to_come_for_content}
use Rattle.cell_ascii_reading.specs.Scan.{AnyFaultIsOfTextOrSource}
use Rattle.cell_ascii_meaning.specs.declared.grid_fault.GridKind.TheVariants.{Memory, Failed}
use Rattle.cell_ascii_meaning.specs.declared.grid_fault.GridFault.{GridFault}

-- the header, the number of unread rows, a pending token, the line, the length of the current run of blanks and line
-- feeds, whether the reader has failed, and the bytes ahead
pub record GridReaderValue : Type 0 where
  pub header : GridHeaderContents
  pub rows_left : ℕ
  pub pending : Option (List ℕ)
  pub line : ℕ
  pub run : ℕ
  pub failed : Bool
  pub ahead : BytesAhead

-- the reader's position in the text
abbrev pub position_of_grid_reader : GridReaderValue → ComingBytes → DataPosition
position_of_grid_reader r c = record { pending = r.pending; line = r.line; run = r.run; coming = c }

-- the header that was read, and the position at which the data begins
abbrev pub header_and_data_start_of_reader : GridReaderValue → ComingBytes → HeaderAndDataStart
header_and_data_start_of_reader r c = record { header = r.header; at = position_of_grid_reader r c }

-- the reader has read the header of a text and at most the first token of its data
abbrev pub IsGridReaderJustOpened : (ComingBytes → Option ComingBytes) → GridReaderValue → Type 0
IsGridReaderJustOpened text r = EqualBeforeAndAfterReads header_of_text text
    (λ c. Ok (header_and_data_start_of_reader r c)) (bytes_to_come_for_content r.ahead)

-- a reader with these bytes ahead gave this source back: if the source kept to a supposed content, so did the reader;
-- and the reader knows how far the source was read
pub record IsSourceReturnedByReader (source : SupposedContent) (asked : Asked) (ahead : BytesAhead) : Type 0 where
  pub kept : (h : ComingBytes) → IsSome (content_to_come source h) → IsSome (bytes_to_come_for_content ahead h)
  pub sure : ahead.heard.sure ≡ source_is_in_assumed_state asked ahead.ended ahead.heard.failed

-- the source was not asked after its end or an `Err`, unless it was before: with some content its reads agreed
abbrev pub SourceIsNotAskedAfterEnd : Asked → Asked → Type 0
SourceIsNotAskedAfterEnd old new = old ≡ Going → new ≢ Again

-- an error from reading a grid: `Memory` has line 0, and the kind is never `Failed`
pub record IsGridReadingFault (f : GridFault) : Type 0 where
  pub memory : f.kind ≡ Memory → f.line ≡ 0
  pub kinds : f.kind ≢ Failed

-- the result equals the specified reading, unless memory ran out
abbrev pub EqualsReadingUnlessOutOfMemory : {A : Type 0} → Result A GridFault → Result A GridFault → Type 0
EqualsReadingUnlessOutOfMemory (Ok x) reading = reading ≡ Ok x
EqualsReadingUnlessOutOfMemory (Err f) reading = f.kind ≢ Memory → reading ≡ Err f

-- the error of a result
abbrev pub fault_of_reading_result : {X : Type 0} → Result X GridFault → Option GridFault
fault_of_reading_result (Ok x) = None
fault_of_reading_result (Err f) = Some f

-- the error that a reader returns after it has failed
abbrev pub fault_of_failed_reader : GridFault
fault_of_failed_reader = grid_fault_at_line Failed 0

-- the row is interrupted by an error: it starts with the cells that were read, and the rest is unchanged
pub record IsRowInterruptedByFault (h : GridHeaderContents) (at : DataPosition) (f : GridFault)
    (old new : List CellValue) : Type 0 where
  pub count : ℕ
  pub fewer : count < length old
  pub rest : DataPosition
  pub cells : items_read_one_after_another (next_cell_after_position h) count at ≡ Ok (take count new, rest)
  pub stop : next_cell_after_position h rest ≡ Err f
  pub kept : drop count new ≡ drop count old

-- only cells at the start of the row may have changed
pub record OnlyFirstCellsChanged (old new : List CellValue) : Type 0 where
  pub count : ℕ
  pub fewer : count < length old
  pub kept : drop count new ≡ drop count old

-- the result at the end of a text, after which `after` is to come: the error there, or `Failed` if the reader failed
-- before
pub record ReportsErrorAtTextEnd (r : GridReaderValue) (answer : Result (Unit {0}) GridFault)
    (after : ComingBytes → Option ComingBytes) : Type 0 where
  pub failed : r.failed ≡ true → answer ≡ Err fault_of_failed_reader
  pub reported : r.failed ≡ false → HoldsForAgreeingContents (bytes_to_come_for_content r.ahead) after
      (λ c. fault_of_reading_result answer ≡ first_fault_after_last_cell (position_of_grid_reader r c))
  pub memory : IfErr answer (λ f. f.kind ≢ Memory)
  pub kinds : r.failed ≡ false → AnyFaultIsOfTextOrSource answer
