use Rattle.std.proofs.Common.{◌≡◌, ◌-◌, ◌+◌, ◌*◌, ◌≤◌, length, All, [], true}
use Rattle.cell_core_devices.specs.Device.{ComingBytes}
use Rattle.cell_core_devices.specs.declared.source.Asked.TheVariants.{Going}
use Rattle.rcell_pipe_request.specs.RequestFields.{reading_repeated_n_times}
use Rattle.rcell_pipe_request.specs.Feeds.{request_reader_may_hold_bytes, left, OpenSourceReachesState}
use Rattle.rcell_pipe_borders.specs.BorderGrids.{borders_as_values, tile_rows_with_next_row_reading}
use Rattle.rcell_pipe_borders.specs.BorderGrids.{row_count_of_tile_rows}
use Rattle.rcell_pipe_borders.specs.parts.RowCounts.{TilesHaveSameRowCount}
use Rattle.rcell_pipe_borders.proofs.tiles.read_tile_rows.Given as goal

abbrev pub invariant-loop-i : goal.invariant-loop-i
invariant-loop-i g l =
    ((c : ComingBytes) → request_reader_may_hold_bytes c l.feed ≡ true
    → (request_reader_may_hold_bytes c l.fn.feed ≡ true)
    × (reading_repeated_n_times (tile_rows_with_next_row_reading l.joining l.cols) (borders_as_values l.grid.items)
    (l.rows - l.i) (left c l.feed)
    ≡ reading_repeated_n_times (tile_rows_with_next_row_reading l.joining l.cols) [] l.rows (left c l.fn.feed)))
    × (length (borders_as_values l.grid.items) ≡ l.i)
    × All TilesHaveSameRowCount (borders_as_values l.grid.items) × OpenSourceReachesState Going l.fn.feed l.feed
    × (l.first_row ≡ row_count_of_tile_rows (borders_as_values l.grid.items)) × (l.first_row ≤ 65535 * l.i)
