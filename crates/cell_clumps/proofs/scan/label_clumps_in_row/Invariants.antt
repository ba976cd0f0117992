use Rattle.std.proofs.Common.{◌≡◌, ◌+◌, ◌≤◌, ℕ, List, All, None, length}
use Rattle.cell_clumps.specs.parts.Labels.{LabelsPointToSmallerOrSelf}
use Rattle.cell_clumps.specs.parts.RunsOfLabels.{AreCellsLabelledAndRowsStored, AreRowsLabelledAndStored}
use Rattle.cell_clumps.proofs.scan.label_clumps_in_row.Given as goal

abbrev pub invariant-loop-col : goal.invariant-loop-col
invariant-loop-col l = record {
  wide : length l.line ≡ l.map.region.cols + 1;
  down : LabelsPointToSmallerOrSelf l.table.items;
  most : length l.table.items ≤ length l.fn.table.items + l.col;
  nulls : All (λ x. x.cell ≡ None → x.label ≡ 4294967295) l.line;
  walked : (kept : List (List ℕ)) → AreRowsLabelledAndStored l.joining l.map kept l.fn.table.items l.fn.line l.row
      → AreCellsLabelledAndRowsStored l.joining l.map kept l.table.items l.line l.row l.col l.near;
}
