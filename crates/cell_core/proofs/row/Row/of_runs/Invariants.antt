use Rattle.std.proofs.Common.{All, take}
use Rattle.cell_core_values.specs.Cell.{IsNullOrCategory}
use Rattle.cell_core.proofs.row.Row.of_runs.Given as goal

abbrev pub invariant-loop-run : goal.invariant-loop-run
invariant-loop-run l = All (λ run. IsNullOrCategory run.0) (take l.run-index l.runs)
