use Rattle.std.proofs.Common.{◌≡◌, ◌+◌, ◌≤◌, ◌++◌, drop}
use Rattle.cell_core.specs.parts.RowForms.{runs_continuing_first_run}
use Rattle.cell_core.proofs.runs.push_runs_of_last_cells.Given as goal

abbrev pub invariant-loop-next : goal.invariant-loop-next
invariant-loop-next l = record {
  few : l.count ≤ l.fn.run.1 + l.next-index;
  whole : l.runs.items ++ runs_continuing_first_run (l.cell, l.count) (drop l.next-index l.cells) ≡ l.fn.runs.items
      ++ runs_continuing_first_run l.fn.run l.cells;
}
