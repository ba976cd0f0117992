use Rattle.std.proofs.Common.{◌≡◌, ◌<◌, ℕ}
use Rattle.cell_calc.specs.RowValues.{at}
use Rattle.cell_calc.proofs.common_stretches.count_cells_equal_to_first.Given as goal

abbrev pub invariant-loop-i : goal.invariant-loop-i
invariant-loop-i l = (k : ℕ) → k < l.i → at l.cells k ≡ at l.cells 0
