use Rattle.std.proofs.Common.{◌≡◌, ◌≤◌, ℕ}
use Rattle.cell_calc.specs.Window.{WindowHoldsMapRows}
use Rattle.cell_calc_tests.proofs.evaluation.moved.Given as goal

abbrev pub invariant-loop : goal.invariant-loop
invariant-loop l =
    record {
      window : WindowHoldsMapRows l.window l.map;
      centre : l.window.centre ≡ l.counter;
      within : l.counter ≤ l.row;
      above : l.window.above ≡ l.above;
      below : l.window.below ≡ l.below;
    }
