use Rattle.std.proofs.Common.{◌≡◌, ◌≤◌, ◌+◌, All, take, drop, length}
use Rattle.cell_core_values.specs.Cell.{IsNullOrCategory}
use Rattle.cell_core.specs.parts.RowForms.{count_of_run_starts, runs_of_cells}
use Rattle.cell_core.proofs.runs.number_of_runs.Given as goal

abbrev pub invariant-loop-cell : goal.invariant-loop-cell
invariant-loop-cell l = record {
  cells : All IsNullOrCategory (take l.cell-index l.row);
  count : l.cell-index + 1 + count_of_run_starts l.last (drop l.cell-index l.row)
      ≡ length (runs_of_cells l.row) + l.alike;
  few : l.alike ≤ l.cell-index;
}
