use Rattle.std.proofs.Common.{◌≡◌, ◌≤◌, ◌+◌, ◌-◌, length, drop}
use Rattle.cell_core_values.specs.SmallCells.{cells_of_bytes}
use Rattle.cell_core.specs.parts.RowForms.{runs_of_cells}
use Rattle.cell_core.proofs.byte_runs.number_of_byte_runs.Given as goal

abbrev pub invariant-blocks-2 : goal.invariant-blocks-2
invariant-blocks-2 l = record {
  within : l.at ≤ length l.bytes;
  few : l.ended ≤ length l.bytes;
  count : l.ended + length (runs_of_cells (cells_of_bytes (drop l.at l.bytes)))
      ≡ length (runs_of_cells (cells_of_bytes l.bytes));
}

abbrev pub decreases-blocks-2 : goal.decreases-blocks-2
decreases-blocks-2 l = length l.bytes - l.at
