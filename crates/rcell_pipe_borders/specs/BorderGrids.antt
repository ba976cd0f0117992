-- The meaning of the bytes of a grid of tiles: the border of each tile, row by row (profile).
use Rattle.std.specs.Prelude.{ℕ, ◌+◌, ◌*◌, ◌-◌, ◌==◌, ◌&&◌, ◌^◌, nat_le, nat_lt, Bool, true, List, [], ◌∷◌, ◌++◌}
use Rattle.std.specs.Prelude.{length, map, sum_by, Option, Some, None, Ok, Err, slice_get, slice_index_or, Vec}
use Rattle.std.specs.Prelude.{if◌then◌else◌}
use Rattle.std.specs.Global.{Global}
use Rattle.std.specs.Int.{w8, w32, w64}
use Rattle.cell_core_devices.specs.Device.{ComingBytes}
use Rattle.cell_core_values.specs.Answers.{◌>>=◌}
use Rattle.cell_core_values.specs.Cell.{cell_of_stored_number}
use Rattle.cell_core.specs.Grid.{CellValue}
use Rattle.cell_clumps.specs.declared.clump.Joining.{Joining}
use Rattle.cell_join_tiles.specs.Beginnings.{clump_count_of_tile_grid}
use Rattle.cell_join_tiles.specs.Values.{TileSideValue, TileBorderValue, values_of_tile_borders}
use Rattle.cell_join_tiles.specs.JoinedBorders.{begun_clump_counts_of_grid}
use Rattle.cell_join_tiles.specs.declared.border.TileBorder.{TileBorder}
use Rattle.rcell_pipe_request.specs.declared.error.ErrorKind.TheVariants as kinds
use Rattle.rcell_pipe_request.specs.RequestFields.{RequestFieldReading, PositionedReading, result_with_error_position}
use Rattle.rcell_pipe_request.specs.RequestFields.{unsigned_number_reading, signed_number_reading}
use Rattle.rcell_pipe_request.specs.RequestFields.{end_of_request_reading, reading_repeated_n_times}
use Rattle.rcell_pipe_frames.specs.FrameBytes.{joining_code}
use Rattle.rcell_pipe_borders.specs.BorderChecks.{is_valid_border}

-- the cells so far, and one more
unfoldable pub cells_with_next_cell_reading : List CellValue → ComingBytes → RequestFieldReading (List CellValue)
cells_with_next_cell_reading cells c = do
  number ← signed_number_reading w32 c
  Ok (cells ++ cell_of_stored_number number.0 ∷ [], number.1)

-- `n` cells in four bytes each
abbrev pub four_byte_cells_reading : ℕ → ComingBytes → RequestFieldReading (List CellValue)
four_byte_cells_reading n c = reading_repeated_n_times cells_with_next_cell_reading [] n c

-- the counts so far, and one more
unfoldable pub row_patch_counts_with_next_reading : List ℕ → ComingBytes → RequestFieldReading (List ℕ)
row_patch_counts_with_next_reading begun c = do
  count ← unsigned_number_reading w32 c
  Ok (begun ++ count.0 ∷ [], count.1)

-- the number of patches that begin in each of `n` rows
abbrev pub row_patch_counts_reading : ℕ → ComingBytes → RequestFieldReading (List ℕ)
row_patch_counts_reading n c = reading_repeated_n_times row_patch_counts_with_next_reading [] n c

-- the categories of a side of `n` cells, then their patches' numbers
unfoldable pub tile_side_reading : ℕ → ComingBytes → RequestFieldReading TileSideValue
tile_side_reading n c = do
  cells ← four_byte_cells_reading n c
  numbers ← four_byte_cells_reading n cells.1
  Ok (record { cells = cells.0; numbers = numbers.0 }, numbers.1)

-- the first and the last row, the first and the last column, and the counts by row
unfoldable pub border_fields_reading : (rows cols : ℕ) → ComingBytes → RequestFieldReading TileBorderValue
border_fields_reading rows cols c = do
  first ← tile_side_reading cols c
  last ← tile_side_reading cols first.1
  left ← tile_side_reading rows last.1
  right ← tile_side_reading rows left.1
  begun ← row_patch_counts_reading rows right.1
  Ok (record { first = first.0; last = last.0; left = left.0; right = right.0; begun = begun.0 }, begun.1)

-- the connectivity of a tile's patches, which is the connectivity of the request
unfoldable pub tile_connectivity_reading : Joining → ComingBytes → RequestFieldReading Unit
tile_connectivity_reading joining c = do
  code ← unsigned_number_reading w8 c
  if code.0 == joining_code joining then Ok (tt, code.1) else Err kinds.OtherConnectivity

-- a tile's first row and column in the full map, which are these
unfoldable pub tile_position_reading : (first_row first_col : ℕ) → ComingBytes → RequestFieldReading Unit
tile_position_reading first_row first_col c = do
  row ← unsigned_number_reading w64 c
  col ← unsigned_number_reading w64 row.1
  if row.0 == first_row && col.0 == first_col then Ok (tt, col.1) else Err kinds.OtherPlace

-- a tile can have this number of rows or columns
abbrev pub is_valid_tile_side_length : ℕ → Bool
is_valid_tile_side_length n = nat_le 1 n && nat_le n 65535

-- the numbers of rows and columns of a tile
unfoldable pub tile_size_reading : ComingBytes → RequestFieldReading (ℕ × ℕ)
tile_size_reading c = do
  rows ← unsigned_number_reading w32 c
  cols ← unsigned_number_reading w32 rows.1
  if is_valid_tile_side_length rows.0 && is_valid_tile_side_length cols.0 then Ok
      ((rows.0, cols.0), cols.1) else Err kinds.BadSize

-- the tiles on the left, if any, have this number of rows
abbrev pub left_tiles_have_row_count : List TileBorderValue → ℕ → Bool
left_tiles_have_row_count [] rows = true
left_tiles_have_row_count (tile ∷ tiles) rows = length tile.begun == rows

-- a tile, if any, has this number of columns
abbrev pub tile_has_column_count_if_any : Option TileBorderValue → ℕ → Bool
tile_has_column_count_if_any None cols = true
tile_has_column_count_if_any (Some tile) cols = length tile.first.cells == cols

-- the tile above, if any, has this number of columns
abbrev pub tile_above_has_column_count : List TileBorderValue → (col cols : ℕ) → Bool
tile_above_has_column_count above col cols = tile_has_column_count_if_any (slice_get above col) cols

-- the size of the next tile: it has the rows of the tiles on its left, and the columns of the tile above
unfoldable pub next_tile_size_reading : (above row : List TileBorderValue) → ComingBytes → RequestFieldReading (ℕ × ℕ)
next_tile_size_reading above row c = do
  size ← tile_size_reading c
  if left_tiles_have_row_count row size.0.0 && tile_above_has_column_count above
      (length row) size.0.1 then Ok size else Err kinds.OtherSize

-- the number of columns of a row of tiles
abbrev pub column_count_of_tiles : List TileBorderValue → ℕ
column_count_of_tiles row = sum_by (λ tile. length tile.first.cells) row

-- the number of rows of a row of tiles: the rows of its first tile
abbrev pub row_count_of_tiles : List TileBorderValue → ℕ
row_count_of_tiles [] = 0
row_count_of_tiles (tile ∷ tiles) = length tile.begun

-- the number of rows of all rows of tiles
abbrev pub row_count_of_tile_rows : List (List TileBorderValue) → ℕ
row_count_of_tile_rows grid = sum_by row_count_of_tiles grid

-- the border of the next tile in a row of tiles, given the row's first row in the full map and the row of tiles above;
-- the tile's first column in the full map follows the tiles on its left
unfoldable pub tile_border_reading : Joining → (first_row : ℕ) → (above row : List TileBorderValue) → ComingBytes
    → RequestFieldReading TileBorderValue
tile_border_reading joining first_row above row c = do
  connectivity ← tile_connectivity_reading joining c
  position ← tile_position_reading first_row (column_count_of_tiles row) connectivity.1
  size ← next_tile_size_reading above row position.1
  border ← border_fields_reading size.0.0 size.0.1 size.1
  if is_valid_border border.0 then Ok border else Err kinds.BadBorder

-- the tiles of a row so far, and one more; an error has the number of tiles before it
unfoldable pub tiles_with_next_tile_reading : Joining → (first_row before : ℕ) → (above row : List TileBorderValue)
    → ComingBytes → PositionedReading (List TileBorderValue)
tiles_with_next_tile_reading joining first_row before above row c = do
  tile ← result_with_error_position (before + length row) 0 (tile_border_reading joining first_row above row c)
  Ok (row ++ tile.0 ∷ [], tile.1)

abbrev pub last_row_of_tiles : List (List TileBorderValue) → List TileBorderValue
last_row_of_tiles grid = slice_index_or grid (length grid - 1) []

-- the rows of tiles so far, and one more, whose first row in the full map follows the tiles above
unfoldable pub tile_rows_with_next_row_reading : Joining → (cols : ℕ) → List (List TileBorderValue) → ComingBytes
    → PositionedReading (List (List TileBorderValue))
tile_rows_with_next_row_reading joining cols grid c = do
  row ← reading_repeated_n_times (tiles_with_next_tile_reading joining (row_count_of_tile_rows grid)
      (length grid * cols) (last_row_of_tiles grid)) [] cols c
  Ok (grid ++ row.0 ∷ [], row.1)

-- the numbers of rows and columns of tiles
unfoldable pub tile_grid_size_reading : ComingBytes → RequestFieldReading (ℕ × ℕ)
tile_grid_size_reading c = do
  rows ← unsigned_number_reading w32 c
  cols ← unsigned_number_reading w32 rows.1
  if nat_le 1 (rows.0 * cols.0) && nat_le (rows.0 * cols.0) 4294967295 then Ok ((rows.0, cols.0), cols.1)
      else Err kinds.BadTileCount

-- no bytes follow the tiles, which have fewer than 2^64 patches
unfoldable pub end_of_tile_grid_reading : List (List TileBorderValue) → ComingBytes → RequestFieldReading Unit
end_of_tile_grid_reading grid c = if nat_lt (clump_count_of_tile_grid (begun_clump_counts_of_grid grid))
    (2 ^ 64) then end_of_request_reading c else Err kinds.TooManyPatches

-- the borders of a grid of tiles with this connectivity, which end the request
unfoldable pub tile_grid_reading : Joining → ComingBytes → PositionedReading (List (List TileBorderValue))
tile_grid_reading joining c = do
  counts ← result_with_error_position 0 0 (tile_grid_size_reading c)
  grid ← reading_repeated_n_times (tile_rows_with_next_row_reading joining counts.0.1) [] counts.0.0 counts.1
  end ← result_with_error_position (counts.0.0 * counts.0.1) 0 (end_of_tile_grid_reading grid.0 grid.1)
  Ok (grid.0, end.1)

-- the borders as values
abbrev pub borders_as_values : List (Vec TileBorder Global) → List (List TileBorderValue)
borders_as_values grid = map (λ row. values_of_tile_borders row.items) grid
