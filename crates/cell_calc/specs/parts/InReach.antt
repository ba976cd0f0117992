-- Windows that reach an offset.
use Rattle.std.specs.Prelude.{ℤ, Option, Some, None}
use Rattle.cell_calc.specs.Window.{RowWindowValue, WindowReachesOffset}

-- there is a window, and it reaches the offset
abbrev pub SomeWindowReachesOffset : ℤ → Option RowWindowValue → Type 0
SomeWindowReachesOffset down None = ⊥
SomeWindowReachesOffset down (Some w) = WindowReachesOffset w down
