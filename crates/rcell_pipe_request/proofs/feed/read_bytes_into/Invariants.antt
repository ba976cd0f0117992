use Rattle.std.proofs.Common.{length, ◌-◌, ◌≡◌, ◌≤◌, true, take}
use Rattle.cell_core_devices.specs.Device.{ComingBytes}
use Rattle.cell_core_devices.specs.declared.source.Asked.TheVariants.{Going}
use Rattle.rcell_pipe_request.specs.Feeds.{request_reader_may_hold_bytes, left, after, OpenSourceReachesState}
use Rattle.rcell_pipe_request.proofs.feed.read_bytes_into.Given as goal

abbrev pub invariant-loop-done : goal.invariant-loop-done
invariant-loop-done g l =
    (l.done ≤ length l.out)
    × ((w : ComingBytes) → request_reader_may_hold_bytes w l.feed ≡ true
    → (request_reader_may_hold_bytes w l.fn.feed ≡ true)
    × (left w l.fn.feed ≡ after (take l.done l.out) (left w l.feed)))
    × OpenSourceReachesState Going l.fn.feed l.feed

abbrev pub decreases-loop-done : goal.decreases-loop-done
decreases-loop-done g l = length l.initial.out - l.done
