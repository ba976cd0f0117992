use Rattle.std.proofs.Common.{◌≡◌, ◌<◌, ◌+◌, ◌-◌, ◌≤◌, ◌++◌, length, drop}
use Rattle.cell_core_values.specs.SmallCells.{cells_of_bytes}
use Rattle.cell_core.specs.parts.RowForms.{runs_of_cells, runs_from_nth_cell_of_run}
use Rattle.cell_core.proofs.byte_runs.runs_of_bytes.Given as goal

abbrev pub invariant-blocks-2 : goal.invariant-blocks-2
invariant-blocks-2 l = record {
  within : l.at < length l.bytes;
  few : l.count ≤ l.at + 1;
  whole : l.runs.items ++ runs_from_nth_cell_of_run l.count (cells_of_bytes (drop l.at l.bytes))
      ≡ runs_of_cells (cells_of_bytes l.bytes);
}

abbrev pub decreases-blocks-2 : goal.decreases-blocks-2
decreases-blocks-2 l = length l.bytes - l.at
