use Rattle.std.proofs.Common.{◌≡◌, ℕ, ◌+◌, ◌-◌, ◌++◌, ◌<◌, ◌≤◌, ◌⊎◌, List, All, None, length, map, drop, replicate}
use Rattle.cell_core.specs.Grid.{row_at}
use Rattle.cell_core.specs.Runs.{cells_of_runs}
use Rattle.cell_clumps.specs.declared.near.LabelledCell.{LabelledCell}
use Rattle.cell_clumps.specs.parts.Labels.{LabelsPointToSmallerOrSelf}
use Rattle.cell_clumps.specs.parts.RunsOfLabels.{AreRowsLabelledAsRuns, HasCurrentCellUnlessRowEnded}
use Rattle.cell_clumps.specs.parts.RunsOfLabels.{IsRowLabelledSoFar, labels_of_cells_in_runs, labelled_cells_of_runs}
use Rattle.cell_clumps.specs.parts.RunsOfLabels.{unread_cells_of_row_above}
use Rattle.cell_clumps.proofs.run_scan.label_clumps_in_row_of_runs.Given as goal

abbrev pub invariant-loop-run : goal.invariant-loop-run
invariant-loop-run l = record {
  at : HasCurrentCellUnlessRowEnded l.above l.line;
  down : LabelsPointToSmallerOrSelf l.table.items;
  most : length l.table.items ≤ length l.fn.table.items + length (labelled_cells_of_runs l.below.items);
  lengths : All (λ run. 0 < run.1) l.below.items;
  counts : All (λ run. 0 < run.1) l.run-iterator;
  cells : drop (length (labelled_cells_of_runs l.below.items)) (row_at l.map l.row) ≡ cells_of_runs l.run-iterator;
  within : length (labelled_cells_of_runs l.below.items) + length (cells_of_runs l.run-iterator) ≡ l.map.region.cols;
  same : labels_of_cells_in_runs l.runs.items ≡ map (λ (x : LabelledCell). x.label)
      (labelled_cells_of_runs l.below.items);
  nulls : All (λ (x : LabelledCell). x.cell ≡ None → x.label ≡ 4294967295) (labelled_cells_of_runs l.below.items);
  walked : (kept : List (List ℕ)) → AreRowsLabelledAsRuns l.joining l.map kept l.fn.table.items l.line l.row
      → IsRowLabelledSoFar l.joining l.map kept l.table.items (labelled_cells_of_runs l.below.items)
      (unread_cells_of_row_above l.above l.line) l.row l.near;
}

abbrev pub invariant-cells : goal.invariant-cells
invariant-cells l = record {
  at : HasCurrentCellUnlessRowEnded l.above l.line;
  down : LabelsPointToSmallerOrSelf l.table.items;
  most : length l.table.items ≤ length l.fn.table.items + (length (labelled_cells_of_runs l.below.items) + l.passed);
  within : l.passed ≤ l.run.1;
  null : l.run.0 ≡ None → l.label ≡ 4294967295;
  same : (l.passed ≡ 0) ⊎ (l.near.left ≡ record { cell = l.run.0; label = l.label });
  walked : (kept : List (List ℕ)) → AreRowsLabelledAsRuns l.joining l.map kept l.fn.table.items l.line l.row
      → IsRowLabelledSoFar l.joining l.map kept l.table.items (labelled_cells_of_runs l.below.items
      ++ replicate l.passed (record
      { cell = l.run.0; label = l.label })) (unread_cells_of_row_above l.above l.line) l.row l.near;
}

abbrev pub decreases-cells : goal.decreases-cells
decreases-cells l = l.run.1 - l.passed
