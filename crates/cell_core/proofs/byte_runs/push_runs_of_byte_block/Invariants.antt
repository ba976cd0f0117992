use Rattle.std.proofs.Common.{◌≡◌, ◌+◌, ◌-◌, ◌≤◌, ◌++◌, get_or, drop}
use Rattle.cell_core_values.specs.SmallCells.{cell_of_stored_byte, cells_of_bytes}
use Rattle.cell_core.specs.parts.RowForms.{run_start_mark_bits, cells_after_first_byte, runs_continuing_first_run}
use Rattle.cell_core.specs.parts.RowForms.{runs_from_nth_cell_of_run}
use Rattle.cell_core.proofs.byte_runs.push_runs_of_byte_block.Given as goal

abbrev pub invariant-breaks : goal.invariant-breaks
invariant-breaks l = record {
  within : l.at ≤ 64;
  few : l.count ≤ l.fn.nth + l.at;
  bits : l.breaks ≡ run_start_mark_bits (cell_of_stored_byte (get_or l.bytes l.at 0))
      (drop l.at (cells_after_first_byte l.bytes));
  whole : l.runs.items ++ runs_continuing_first_run (cell_of_stored_byte (get_or l.bytes l.at 0), l.count)
      (drop l.at (cells_after_first_byte l.bytes) ++ cells_of_bytes (drop 65 l.bytes))
      ≡ l.fn.runs.items ++ runs_from_nth_cell_of_run l.fn.nth (cells_of_bytes l.bytes);
}

abbrev pub decreases-breaks : goal.decreases-breaks
decreases-breaks l = 64 - l.at
