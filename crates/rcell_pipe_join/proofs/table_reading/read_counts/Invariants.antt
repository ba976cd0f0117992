use Rattle.std.proofs.Common.{◌≡◌, ◌-◌, ◌<◌, All, length, [], true}
use Rattle.cell_core_devices.specs.Device.{ComingBytes}
use Rattle.cell_core_devices.specs.declared.source.Asked.TheVariants.{Going}
use Rattle.rcell_pipe_request.specs.RequestFields.{reading_repeated_n_times}
use Rattle.rcell_pipe_request.specs.Feeds.{request_reader_may_hold_bytes, left, OpenSourceReachesState}
use Rattle.rcell_pipe_join.specs.TableEntries.{counts_with_next_count_reading}
use Rattle.rcell_pipe_join.proofs.table_reading.read_counts.Given as goal

abbrev pub invariant-loop-i : goal.invariant-loop-i
invariant-loop-i g l =
    ((c : ComingBytes) → request_reader_may_hold_bytes c l.feed ≡ true
    → (request_reader_may_hold_bytes c l.fn.feed ≡ true)
    × (reading_repeated_n_times counts_with_next_count_reading l.counts.items (l.size - l.i) (left c l.feed)
    ≡ reading_repeated_n_times counts_with_next_count_reading [] l.size (left c l.fn.feed)))
    × (length l.counts.items ≡ l.i)
    × (All (λ n. 0 < n) l.counts.items) × OpenSourceReachesState Going l.fn.feed l.feed
