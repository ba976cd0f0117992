use Rattle.std.proofs.Common.{ℕ, ◌≤◌}
use Rattle.cell_core.specs.Grid.{Grid}
use Rattle.cell_clumps.specs.declared.clump.Joining.{Joining}
use Rattle.cell_clumps.specs.parts.Meetings.{LabelsLeadToConnectedRoots}
use Rattle.cell_clumps.specs.parts.ClumpNumbers.{AreLabelsNumberedBeforePlace, CanNumberLabelsFromPlace}
use Rattle.cell_clumps.proofs.clump_numbers.replace_labels_by_clump_numbers.Given as goal

abbrev pub invariant-loop-place : goal.invariant-loop-place
invariant-loop-place l = record {
  ready : CanNumberLabelsFromPlace l.place l.table;
  few : l.count ≤ l.place;
  numbered : (j : Joining) (m : Grid) (open_of : ℕ → ℕ) → LabelsLeadToConnectedRoots j m l.fn.table open_of
      → AreLabelsNumberedBeforePlace j m l.fn.table open_of l.place l.table l.count;
}
