use Rattle.std.proofs.Common.{◌≡◌, take}
use Rattle.cell_core_values.specs.SmallCells.{cells_of_bytes}
use Rattle.cell_core_values.proofs.small_cells.write_bytes_as_cells.Given as goal

abbrev pub invariant-loop-i : goal.invariant-loop-i
invariant-loop-i l = take l.i l.cells ≡ cells_of_bytes (take l.i l.bytes)
