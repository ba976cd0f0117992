use Rattle.std.proofs.Common.{◌≡◌, ◌<◌, ◌≤◌, ℕ, get_or}
use Rattle.cell_patches.specs.parts.Passes.{RowsGiveDiamondStepsOfCell}
use Rattle.cell_patches.proofs.core_steps.write_diamond_steps_of_row.Given as goal

abbrev pub invariant-loop-col : goal.invariant-loop-col
invariant-loop-col l = record {
  before : (k : ℕ) → k < l.col → RowsGiveDiamondStepsOfCell l.lines k l.above l.second_above (get_or l.here k 0);
  after : (k : ℕ) → l.col ≤ k → get_or l.here k 0 ≡ 0;
}
