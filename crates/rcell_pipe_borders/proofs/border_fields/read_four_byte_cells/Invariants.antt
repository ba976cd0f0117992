use Rattle.std.proofs.Common.{◌≡◌, ◌-◌, ◌+◌, ◌*◌, ◌≤◌, length, sum, [], true}
use Rattle.cell_core_devices.specs.Device.{ComingBytes}
use Rattle.cell_core_devices.specs.declared.source.Asked.TheVariants.{Going}
use Rattle.rcell_pipe_request.specs.RequestFields.{reading_repeated_n_times}
use Rattle.rcell_pipe_request.specs.Feeds.{request_reader_may_hold_bytes, left, OpenSourceReachesState}
use Rattle.rcell_pipe_borders.specs.BorderGrids.{cells_with_next_cell_reading}
use Rattle.rcell_pipe_borders.proofs.border_fields.read_four_byte_cells.Given as goal

abbrev pub invariant-loop-i : goal.invariant-loop-i
invariant-loop-i g l =
    ((c : ComingBytes) → request_reader_may_hold_bytes c l.feed ≡ true
    → (request_reader_may_hold_bytes c l.fn.feed ≡ true)
    × (reading_repeated_n_times cells_with_next_cell_reading l.cells.items (l.count - l.i) (left c l.feed)
    ≡ reading_repeated_n_times cells_with_next_cell_reading [] l.count (left c l.fn.feed)))
    × (length l.cells.items ≡ l.i) × OpenSourceReachesState Going l.fn.feed l.feed
