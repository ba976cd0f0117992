use Rattle.std.proofs.Common.{◌≡◌, ◌-◌, [], true}
use Rattle.cell_core_devices.specs.Device.{ComingBytes}
use Rattle.cell_core_devices.specs.declared.source.Asked.TheVariants.{Going}
use Rattle.rcell_pipe_request.specs.RequestFields.{reading_repeated_n_times}
use Rattle.rcell_pipe_request.specs.Feeds.{request_reader_may_hold_bytes, left, OpenSourceReachesState}
use Rattle.rcell_pipe_join.specs.PatchLists.{runs_with_next_run_reading}
use Rattle.rcell_pipe_join.proofs.patch_runs.read_given_number_of_runs.Given as goal

abbrev pub invariant-loop-i : goal.invariant-loop-i
invariant-loop-i g l =
    ((c : ComingBytes) → request_reader_may_hold_bytes c l.feed ≡ true
    → (request_reader_may_hold_bytes c l.fn.feed ≡ true)
    × (reading_repeated_n_times runs_with_next_run_reading l.numbering (l.count - l.i) (left c l.feed)
    ≡ reading_repeated_n_times runs_with_next_run_reading [] l.count (left c l.fn.feed)))
    × OpenSourceReachesState Going l.fn.feed l.feed
