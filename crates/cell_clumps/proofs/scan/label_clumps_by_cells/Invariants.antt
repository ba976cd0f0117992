use Rattle.std.proofs.Common.{◌≡◌, ◌*◌, ◌≤◌, All, None, length}
use Rattle.cell_clumps.specs.parts.Labels.{LabelsPointToSmallerOrSelf}
use Rattle.cell_clumps.specs.parts.RunsOfLabels.{AreRowsLabelledAndStored}
use Rattle.cell_clumps.proofs.scan.label_clumps_by_cells.Given as goal

abbrev pub invariant-loop-row : goal.invariant-loop-row
invariant-loop-row l = record {
  wide : length l.cells ≡ l.map.region.cols;
  down : LabelsPointToSmallerOrSelf l.table.items;
  most : length l.table.items ≤ l.row * l.map.region.cols;
  nulls : All (λ x. x.cell ≡ None → x.label ≡ 4294967295) l.line;
  count : length l.rows.items ≡ l.row;
  lines : AreRowsLabelledAndStored l.joining l.map l.rows.items l.table.items l.line l.row;
}
