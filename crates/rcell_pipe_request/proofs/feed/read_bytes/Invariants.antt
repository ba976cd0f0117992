use Rattle.std.proofs.Common.{length, ◌-◌, ◌≡◌, ◌≤◌, true}
use Rattle.cell_core_devices.specs.Device.{ComingBytes}
use Rattle.cell_core_devices.specs.declared.source.Asked.TheVariants.{Going}
use Rattle.rcell_pipe_request.specs.Feeds.{request_reader_may_hold_bytes, left, after, OpenSourceReachesState}
use Rattle.rcell_pipe_request.proofs.feed.read_bytes.Given as goal

abbrev pub invariant-loop-feed : goal.invariant-loop-feed
invariant-loop-feed g l =
    (length l.text.items ≤ l.len)
    × ((w : ComingBytes) → request_reader_may_hold_bytes w l.feed ≡ true → (request_reader_may_hold_bytes w l.fn.feed ≡ true) × (left w l.fn.feed ≡ after l.text.items (left w l.feed)))
    × OpenSourceReachesState Going l.fn.feed l.feed

abbrev pub decreases-loop-feed : goal.decreases-loop-feed
decreases-loop-feed g l = l.len - length l.text.items
