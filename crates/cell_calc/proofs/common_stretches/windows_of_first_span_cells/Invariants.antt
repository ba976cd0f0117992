use Rattle.std.proofs.Common.{take}
use Rattle.cell_calc.specs.CommonStretches.{AreWindowsOfFirstSpanCells}
use Rattle.cell_calc.proofs.common_stretches.windows_of_first_span_cells.Given as goal

abbrev pub invariant-loop-window : goal.invariant-loop-window
invariant-loop-window l = AreWindowsOfFirstSpanCells l.widths (take l.window-index l.windows) l.short.items
