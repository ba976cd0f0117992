use Rattle.std.proofs.Common.{◌≡◌, ◌+◌, ◌-◌, ◌≤◌, ◌++◌, List, drop}
use Rattle.cell_core.specs.Grid.{CellValue}
use Rattle.cell_core.specs.parts.RowForms.{run_start_mark_bits, runs_continuing_first_run}
use Rattle.cell_core.proofs.runs.push_runs_ending_in_block.Given as goal

abbrev pub invariant-breaks : goal.invariant-breaks
invariant-breaks l = record {
  within : l.at ≤ 64;
  few : l.count ≤ l.fn.run.1 + l.at;
  bits : l.breaks ≡ run_start_mark_bits l.cell (drop l.at l.block);
  whole : (more : List CellValue) → l.runs.items ++ runs_continuing_first_run (l.cell, l.count) (drop l.at l.block
      ++ more) ≡ l.fn.runs.items ++ runs_continuing_first_run l.fn.run (l.block ++ more);
}

abbrev pub decreases-breaks : goal.decreases-breaks
decreases-breaks l = 64 - l.at
