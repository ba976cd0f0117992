use Rattle.std.proofs.Common.{◌<◌, ℕ, get_or}
use Rattle.cell_calc.specs.Window.{RowWindowValue}
use Rattle.cell_calc.specs.parts.Columns.{WindowRowHasWidth}
use Rattle.cell_calc.proofs.common_stretches.are_window_rows_of_width.Given as goal

abbrev pub invariant-loop-window : goal.invariant-loop-window
invariant-loop-window l = (i : ℕ) (d : RowWindowValue) → i < l.window-index
    → WindowRowHasWidth l.cols (get_or l.windows i d)
