use Rattle.std.proofs.Common.{◌≡◌, ◌-◌, ◌≤◌, length, take}
use Rattle.cell_ascii.proofs.short_cells.byte_count_continuing_period.Given as goal

abbrev pub invariant-loads : goal.invariant-loads
invariant-loads l = record {
  within : l.count ≤ length l.later;
  alike : take l.count l.later ≡ take l.count l.buffered;
}

abbrev pub decreases-loads : goal.decreases-loads
decreases-loads l = length l.later - l.count
