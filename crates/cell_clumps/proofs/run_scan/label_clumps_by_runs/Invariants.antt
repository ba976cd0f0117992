use Rattle.std.proofs.Common.{◌≡◌, ◌*◌, ◌<◌, ◌≤◌, All, length}
use Rattle.cell_clumps.specs.parts.Labels.{LabelsPointToSmallerOrSelf}
use Rattle.cell_clumps.specs.parts.RunsOfLabels.{AreRowsLabelledAsRuns}
use Rattle.cell_clumps.proofs.run_scan.label_clumps_by_runs.Given as goal

abbrev pub invariant-loop-row : goal.invariant-loop-row
invariant-loop-row l = record {
  down : LabelsPointToSmallerOrSelf l.table.items;
  most : length l.table.items ≤ l.row * l.map.region.cols;
  lengths : All (λ run. 0 < run.1) l.line.items;
  count : length l.rows.items ≡ l.row;
  runs : AreRowsLabelledAsRuns l.joining l.map l.rows.items l.table.items l.line.items l.row;
}
