use Rattle.std.proofs.Common.{◌≤◌, ◌-◌, length}
use Rattle.cell_ascii_lanes.proofs.run_lanes.has_short_runs.Given as goal

abbrev pub invariant-blocks-2 : goal.invariant-blocks-2
invariant-blocks-2 l = record {
  low : l.at ≤ 320;
  within : l.at ≤ length l.bytes;
}

abbrev pub decreases-blocks-2 : goal.decreases-blocks-2
decreases-blocks-2 l = 320 - l.at
