use Rattle.std.proofs.Common.{◌<◌, ◌≤◌, ℕ, get_or}
use Rattle.cell_calc.specs.Window.{RowWindowValue}
use Rattle.cell_calc.specs.parts.Columns.{WindowRowIsUnchangedInColumns}
use Rattle.cell_calc.proofs.common_stretches.count_columns_without_change.Given as goal

abbrev pub invariant-loop-window : goal.invariant-loop-window
invariant-loop-window l =
    record {
      within : l.least ≤ l.left;
      some : 0 < l.least;
      alike : (i : ℕ) (d : RowWindowValue) → i < l.window-index
          → WindowRowIsUnchangedInColumns l.from l.least (get_or l.windows i d);
    }
