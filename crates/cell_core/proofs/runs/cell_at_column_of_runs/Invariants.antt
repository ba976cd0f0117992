use Rattle.std.proofs.Common.{◌≡◌, drop, None, slice_index_or}
use Rattle.cell_core.specs.Runs.{cells_of_runs}
use Rattle.cell_core.proofs.runs.cell_at_column_of_runs.Given as goal

abbrev pub invariant-loop-run : goal.invariant-loop-run
invariant-loop-run l = slice_index_or (cells_of_runs (drop l.run-index l.runs)) l.left None
    ≡ slice_index_or (cells_of_runs l.runs) l.col None
