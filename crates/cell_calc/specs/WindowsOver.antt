-- The rows that windows hold.
use Rattle.std.specs.Prelude.{◌-◌, ◌+ℤ◌, ◌-ℤ◌, ℤ, pos, List, [], Option, Some, None}
use Rattle.cell_core.specs.Grid.{CellValue}
use Rattle.cell_calc_language.specs.Offsets.{item_at_integer_or_default}
use Rattle.cell_calc.specs.Window.{RowWindowValue}

-- the row at this distance below the window's centre, or an empty list
abbrev pub row_below_window_centre : ℤ → Option RowWindowValue → List CellValue
row_below_window_centre down None = []
row_below_window_centre down (Some w) = item_at_integer_or_default [] w.held
    ((pos w.centre +ℤ down) -ℤ pos (w.centre - w.above))
