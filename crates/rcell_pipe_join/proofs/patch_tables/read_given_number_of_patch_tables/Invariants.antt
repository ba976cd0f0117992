use Rattle.std.proofs.Common.{◌≡◌, ◌-◌, ◌<◌, ◌^◌, All, length, sum_by, [], true}
use Rattle.cell_core_devices.specs.Device.{ComingBytes}
use Rattle.cell_core_devices.specs.declared.source.Asked.TheVariants.{Going}
use Rattle.rcell_pipe_request.specs.RequestFields.{reading_repeated_n_times}
use Rattle.rcell_pipe_request.specs.Feeds.{request_reader_may_hold_bytes, left, OpenSourceReachesState}
use Rattle.rcell_pipe_join.specs.PatchTables.{cell_count_of_tile_table, patch_tables_as_values}
use Rattle.rcell_pipe_join.specs.PatchTables.{patch_tables_with_next_table_reading}
use Rattle.rcell_pipe_join.specs.parts.TableCounts.{NoCountOfTileTableIsZero}
use Rattle.rcell_pipe_join.proofs.patch_tables.read_given_number_of_patch_tables.Given as goal

abbrev pub invariant-loop-i : goal.invariant-loop-i
invariant-loop-i g l =
    ((c : ComingBytes) → request_reader_may_hold_bytes c l.feed ≡ true
    → (request_reader_may_hold_bytes c l.fn.feed ≡ true)
    × (reading_repeated_n_times (patch_tables_with_next_table_reading l.numbering l.width)
    (patch_tables_as_values l.tables.items) (l.count - l.i) (left c l.feed)
    ≡ reading_repeated_n_times (patch_tables_with_next_table_reading l.numbering l.width) [] l.count
    (left c l.fn.feed)))
    × (length (patch_tables_as_values l.tables.items) ≡ l.i)
    × (All NoCountOfTileTableIsZero (patch_tables_as_values l.tables.items))
    × (l.cells ≡ sum_by cell_count_of_tile_table (patch_tables_as_values l.tables.items))
    × (sum_by cell_count_of_tile_table (patch_tables_as_values l.tables.items) < 2 ^ 64)
    × OpenSourceReachesState Going l.fn.feed l.feed
