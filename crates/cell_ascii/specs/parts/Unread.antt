-- A reader after the header: before its first row, and after its last.
use Rattle.std.specs.Prelude.{◌≡◌, ◌<◌, ◌^◌, false, Bool, Option, Ok}
use Rattle.cell_core.specs.Grid.{Grid, empty_category_labels}
use Rattle.cell_core_devices.specs.Asking.{SourceKnowledge}
use Rattle.cell_core_devices.specs.Device.{ComingBytes}
use Rattle.cell_core_devices.specs.Supposed.{EqualBeforeAndAfterReads}
use Rattle.cell_ascii_meaning.specs.Header.{GridHeaderContents, header_of_text}
use Rattle.cell_ascii_reading.specs.Ahead.{bytes_to_come_for_content, ScanResultsBeforeAndAfterAgree}
use Rattle.cell_ascii_reading.specs.Scan.{ScannerState}
use Rattle.cell_ascii.specs.GridReaders.{GridReaderValue, position_of_grid_reader}
use Rattle.cell_ascii.specs.Reader.{CellReaderValue, header_and_start_of_cell_reader}
use Rattle.cell_ascii.specs.Reader.{header_and_data_start_by_scanner, rows_read_from_position}

-- the reader has read no row, and its source has not failed
abbrev pub GridReaderHasReadNoRow : GridReaderValue → Type 0
GridReaderHasReadNoRow r = (r.rows_left ≡ r.header.region.rows) × ((r.failed ≡ false) × (r.ahead.heard.failed ≡ false))

-- the scanner has read the header of a text and the first word after it
pub record ScannerHasReadHeaderAndWord (header : GridHeaderContents × Bool) (old new : ScannerState) : Type 0 where
  pub reading : ScanResultsBeforeAndAfterAgree header_of_text old.ahead (λ c. Ok
      (header_and_data_start_by_scanner header new c)) new.ahead
  pub line : new.line < 2 ^ 62
  pub run : new.run ≡ 0

-- the header of a text was read, and the source is in the state `first`
pub record IsReaderAtDataStart (text : ComingBytes → Option ComingBytes) (first : SourceKnowledge)
    (p : CellReaderValue) : Type 0 where
  pub reading : EqualBeforeAndAfterReads header_of_text text (λ c. Ok (header_and_start_of_cell_reader p c))
      (bytes_to_come_for_content p.ahead)
  pub line : p.line < 2 ^ 62
  pub heard : p.ahead.heard ≡ first

-- all remaining rows, at least one, were read into a map
pub record MapHoldsAllRemainingRows (m : Grid) (old new : GridReaderValue) : Type 0 where
  pub region : m.region ≡ old.header.region
  pub labels : m.labels ≡ empty_category_labels
  pub rows : EqualBeforeAndAfterReads (λ c. rows_read_from_position old.header (position_of_grid_reader old c))
      (bytes_to_come_for_content old.ahead)
      (λ d. Ok (m.rows, position_of_grid_reader new d)) (bytes_to_come_for_content new.ahead)
  pub left : new.rows_left ≡ 0
  pub live : new.failed ≡ false
  pub high : 0 < old.header.region.rows
  pub wide : 0 < old.header.region.cols
