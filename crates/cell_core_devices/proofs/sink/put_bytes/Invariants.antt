use Rattle.std.proofs.Common.{◌≡◌, ◌≤◌, ◌-◌, take, length}
use Rattle.cell_core_devices.specs.Device.{append_if_known}
use Rattle.cell_core_devices.proofs.sink.put_bytes.Given as goal

abbrev pub invariant-loop-at : goal.invariant-loop-at
invariant-loop-at g l = record {
  within : l.at ≤ length l.bytes;
  taken : g.W.Sink.taken l.out ≡ append_if_known (g.W.Sink.taken l.fn.out) (take l.at l.bytes);
  faults : g.W.Sink.faults l.out ≡ g.W.Sink.faults l.fn.out;
  untouched : l.at ≡ 0 → l.out ≡ l.fn.out;
}

abbrev pub decreases-loop-at : goal.decreases-loop-at
decreases-loop-at g l = length l.bytes - l.at
