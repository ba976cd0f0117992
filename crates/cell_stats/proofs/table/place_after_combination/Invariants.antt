use Rattle.std.proofs.Common.{◌≡◌, ◌≤◌, ◌-◌, length, drop}
use Rattle.cell_stats.specs.CategoryTables.{entries_after_combination}
use Rattle.cell_stats.proofs.table.place_after_combination.Given as goal

abbrev pub invariant-loop-low : goal.invariant-loop-low
invariant-loop-low l = record {
  within : l.low ≤ l.high;
  high : l.high ≤ length l.entries;
  smaller : entries_after_combination l.combo (drop l.low l.entries) ≡ entries_after_combination l.combo l.entries;
  greater : entries_after_combination l.combo (drop l.high l.entries) ≡ drop l.high l.entries;
}

abbrev pub decreases-loop-low : goal.decreases-loop-low
decreases-loop-low l = l.high - l.low
