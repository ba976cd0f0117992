use Rattle.std.proofs.Common.{◌≡◌, ℕ, ◌≤◌}
use Rattle.cell_clumps.specs.parts.Labels.{LabelsPointToSmallerOrSelf, LabelsLeadToRoots}
use Rattle.cell_clumps.proofs.labels.find_root_label.Given as goal

abbrev pub invariant-loop-table : goal.invariant-loop-table
invariant-loop-table l = record {
  down : LabelsPointToSmallerOrSelf l.table;
  low : l.at ≤ l.label;
  reports : (open_of : ℕ → ℕ) → LabelsLeadToRoots l.fn.table open_of → LabelsLeadToRoots l.table open_of;
  same : (open_of : ℕ → ℕ) → LabelsLeadToRoots l.fn.table open_of → open_of l.at ≡ open_of l.label;
}

abbrev pub decreases-loop-table : goal.decreases-loop-table
decreases-loop-table l = l.at
