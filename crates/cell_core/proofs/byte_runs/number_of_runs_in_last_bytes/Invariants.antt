use Rattle.std.proofs.Common.{◌≡◌, ◌≤◌, ◌+◌, drop, length}
use Rattle.cell_core.specs.parts.RowForms.{count_of_run_starts, runs_of_cells}
use Rattle.cell_core_values.specs.SmallCells.{cell_of_stored_byte, cells_of_bytes}
use Rattle.cell_core.proofs.byte_runs.number_of_runs_in_last_bytes.Given as goal

abbrev pub invariant-loop-byte : goal.invariant-loop-byte
invariant-loop-byte l = record {
  count : l.byte-index + 1 + count_of_run_starts (cell_of_stored_byte l.last)
      (drop l.byte-index (cells_of_bytes l.bytes))
      ≡ length (runs_of_cells (cells_of_bytes l.bytes)) + l.alike;
  few : l.alike ≤ l.byte-index;
}
