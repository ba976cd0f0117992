use Rattle.std.proofs.Common.{◌≡◌, ◌-◌, ◌+◌, ◌*◌, ◌≤◌, length, sum, [], true}
use Rattle.cell_core_devices.specs.Device.{ComingBytes}
use Rattle.cell_core_devices.specs.declared.source.Asked.TheVariants.{Going}
use Rattle.rcell_pipe_request.specs.RequestFields.{reading_repeated_n_times}
use Rattle.rcell_pipe_request.specs.Feeds.{request_reader_may_hold_bytes, left, OpenSourceReachesState}
use Rattle.cell_join_tiles.specs.Values.{values_of_tile_borders}
use Rattle.rcell_pipe_borders.specs.BorderGrids.{column_count_of_tiles, row_count_of_tiles}
use Rattle.rcell_pipe_borders.specs.BorderGrids.{tiles_with_next_tile_reading}
use Rattle.rcell_pipe_borders.specs.parts.RowCounts.{TilesHaveSameRowCount}
use Rattle.rcell_pipe_borders.proofs.tiles.read_tile_row.Given as goal

abbrev pub invariant-loop-i : goal.invariant-loop-i
invariant-loop-i g l =
    ((c : ComingBytes) → request_reader_may_hold_bytes c l.feed ≡ true
    → (request_reader_may_hold_bytes c l.fn.feed ≡ true)
    × (reading_repeated_n_times (tiles_with_next_tile_reading l.start.joining l.start.first_row l.start.before
    (values_of_tile_borders l.above)) (values_of_tile_borders l.row.items)
    (l.cols - l.i) (left c l.feed)
    ≡ reading_repeated_n_times (tiles_with_next_tile_reading l.start.joining l.start.first_row l.start.before
    (values_of_tile_borders l.above)) [] l.cols (left c l.fn.feed)))
    × (length (values_of_tile_borders l.row.items) ≡ l.i)
    × TilesHaveSameRowCount (values_of_tile_borders l.row.items) × OpenSourceReachesState Going l.fn.feed l.feed
    × (l.first_col ≡ column_count_of_tiles (values_of_tile_borders l.row.items)) × (l.first_col ≤ 65535 * l.i)
    × (row_count_of_tiles (values_of_tile_borders l.row.items) ≤ 65535)
