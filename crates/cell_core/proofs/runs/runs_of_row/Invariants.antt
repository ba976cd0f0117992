use Rattle.std.proofs.Common.{◌≡◌, ◌+◌, ◌-◌, ◌≤◌, ◌++◌, length, drop}
use Rattle.cell_core.specs.parts.RowForms.{runs_of_cells, runs_continuing_first_run}
use Rattle.cell_core.proofs.runs.runs_of_row.Given as goal

abbrev pub invariant-parts : goal.invariant-parts
invariant-parts l = record {
  within : l.at ≤ length l.others;
  few : l.run.1 ≤ l.at + 1;
  whole : l.runs.items ++ runs_continuing_first_run l.run (drop l.at l.others) ≡ runs_of_cells l.row;
}

abbrev pub decreases-parts : goal.decreases-parts
decreases-parts l = length l.others - l.at
