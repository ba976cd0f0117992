use Rattle.std.proofs.Common.{◌≡◌, ◌+◌, ◌++◌, length, take, drop}
use Rattle.cell_clumps.specs.parts.RunsOfLabels.{clump_numbers_of_cells_in_runs}
use Rattle.cell_clumps.proofs.kept_labels.write_clump_numbers_of_runs.Given as goal

abbrev pub invariant-loop-run : goal.invariant-loop-run
invariant-loop-run l = record {
  whole : take l.at l.cells ++ clump_numbers_of_cells_in_runs l.table (drop l.run-index l.runs)
      ≡ clump_numbers_of_cells_in_runs l.table l.runs;
  within : l.at + length (clump_numbers_of_cells_in_runs l.table (drop l.run-index l.runs)) ≡ length l.cells;
}
