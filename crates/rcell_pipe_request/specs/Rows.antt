-- The rows of a map in a request: each row's numbers, then its mask, if any (profile).
use Rattle.std.specs.Prelude.{ℕ, ◌*◌, List, Option, Some, None, Ok, Err, if◌then◌else◌}
use Rattle.cell_core_devices.specs.Device.{ComingBytes}
use Rattle.cell_core.specs.Grid.{CellValue}
use Rattle.rcell_pipe_rows.specs.Numbers.{byte_size_of_cell_type}
use Rattle.rcell_pipe_rows.specs.RawRows.{raw_cells, first_error_of_raw_row}
use Rattle.rcell_pipe_rows.specs.declared.raw_row.RowError.{RowError}
use Rattle.rcell_pipe_rows.specs.declared.raw_row.RowError.TheVariants as row_errors
use Rattle.rcell_pipe_request.specs.declared.head.RawFormat.{RawFormat}
use Rattle.rcell_pipe_request.specs.declared.error.ErrorKind.{ErrorKind}
use Rattle.rcell_pipe_request.specs.declared.error.ErrorKind.TheVariants as kinds
use Rattle.cell_core_values.specs.Answers.{◌>>=◌}
use Rattle.rcell_pipe_request.specs.RequestFields.{RequestFieldReading, bytes_reading}

-- the number of bytes in a row's mask: one for each cell, or 0 without a mask
abbrev pub mask_size_of_row : RawFormat → ℕ → ℕ
mask_size_of_row format cols = if format.is_masked then cols else 0

-- the request error for a row error
abbrev pub error_kind_of_row_error : RowError → ErrorKind
error_kind_of_row_error row_errors.BadMask = kinds.BadMask
error_kind_of_row_error row_errors.OutOfRange = kinds.CellRange

-- the cells of a row, or its error
abbrev pub row_cells_or_error : Option RowError → List CellValue → ComingBytes → RequestFieldReading (List CellValue)
row_cells_or_error None cells rest = Ok (cells, rest)
row_cells_or_error (Some error) cells rest = Err (error_kind_of_row_error error)

unfoldable pub row_cells_reading : RawFormat → ℕ → ComingBytes → RequestFieldReading (List CellValue)
row_cells_reading format cols c = do
  bytes ← bytes_reading (cols * byte_size_of_cell_type format.kind) c
  mask ← bytes_reading (mask_size_of_row format cols) bytes.1
  row_cells_or_error (first_error_of_raw_row format.kind format.nodata mask.0 bytes.0 cols) (raw_cells format.kind format.nodata mask.0 bytes.0 cols) mask.1
