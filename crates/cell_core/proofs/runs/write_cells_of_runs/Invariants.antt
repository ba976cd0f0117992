use Rattle.std.proofs.Common.{◌≡◌, ◌+◌, ◌++◌, length, take, drop}
use Rattle.cell_core.specs.Runs.{cells_of_runs}
use Rattle.cell_core.proofs.runs.write_cells_of_runs.Given as goal

abbrev pub invariant-loop-run : goal.invariant-loop-run
invariant-loop-run l = record {
  whole : take l.at l.cells ++ cells_of_runs (drop l.run-index l.runs) ≡ cells_of_runs l.runs;
  within : l.at + length (cells_of_runs (drop l.run-index l.runs)) ≡ length l.cells;
}
