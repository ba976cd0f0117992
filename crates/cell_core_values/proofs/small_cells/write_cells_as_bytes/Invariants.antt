use Rattle.std.proofs.Common.{◌≡◌, take}
use Rattle.cell_core_values.specs.SmallCells.{cells_of_bytes}
use Rattle.cell_core_values.proofs.small_cells.write_cells_as_bytes.Given as goal

abbrev pub invariant-loop-i : goal.invariant-loop-i
invariant-loop-i l = cells_of_bytes (take l.i l.bytes) ≡ take l.i l.cells
