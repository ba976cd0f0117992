use Rattle.std.proofs.Common.{◌≡◌, true, All, take}
use Rattle.cell_core_values.specs.SmallCells.{CellFitsInByte}
use Rattle.cell_core_values.proofs.small_cells.cells_fit_in_bytes.Given as goal

abbrev pub invariant-loop-cell : goal.invariant-loop-cell
invariant-loop-cell l = l.all ≡ true → All CellFitsInByte (take l.cell-index l.cells)
