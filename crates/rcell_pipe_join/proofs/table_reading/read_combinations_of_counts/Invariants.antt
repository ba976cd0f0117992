use Rattle.std.proofs.Common.{◌≡◌, ◌-◌, length, [], true}
use Rattle.cell_core_devices.specs.Device.{ComingBytes}
use Rattle.cell_core_devices.specs.declared.source.Asked.TheVariants.{Going}
use Rattle.rcell_pipe_request.specs.RequestFields.{reading_repeated_n_times}
use Rattle.rcell_pipe_request.specs.Feeds.{request_reader_may_hold_bytes, left, OpenSourceReachesState}
use Rattle.rcell_pipe_join.specs.TableEntries.{entries_with_next_entry_reading}
use Rattle.rcell_pipe_join.specs.parts.TableCounts.{EntryCountsAreFirstCounts}
use Rattle.rcell_pipe_join.proofs.table_reading.read_combinations_of_counts.Given as goal

abbrev pub invariant-loop-i : goal.invariant-loop-i
invariant-loop-i g l =
    ((c : ComingBytes) → request_reader_may_hold_bytes c l.feed ≡ true
    → (request_reader_may_hold_bytes c l.fn.feed ≡ true)
    × (reading_repeated_n_times (entries_with_next_entry_reading l.width l.counts) l.entries.items
    (length l.counts - l.i) (left c l.feed)
    ≡ reading_repeated_n_times (entries_with_next_entry_reading l.width l.counts) [] (length l.counts)
    (left c l.fn.feed)))
    × (length l.entries.items ≡ l.i)
    × (EntryCountsAreFirstCounts l.counts l.entries.items) × OpenSourceReachesState Going l.fn.feed l.feed
