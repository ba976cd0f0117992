use Rattle.std.proofs.Common.{◌≡◌, ◌<◌, ℕ, length}
use Rattle.std.specs.Prelude.{slice_get}
use Rattle.cell_calc_language.specs.Reach.{rows_read_above_by_formula, rows_read_below_by_formula}
use Rattle.cell_calc.specs.Window.{IsWindowAtRowWithReach}
use Rattle.cell_calc_tests.proofs.evaluation.open.Given as goal

abbrev pub invariant-loop-i : goal.invariant-loop-i
invariant-loop-i l =
    record {
      count : length l.windows.items ≡ l.i;
      reach : (i : ℕ) → i < l.i → IsWindowAtRowWithReach l.row (rows_read_above_by_formula i l.bound)
          (rows_read_below_by_formula i l.bound) (slice_get l.windows.items i);
    }
