use Rattle.std.proofs.Common.{◌≡◌, ◌≤◌, length, take, drop}
use Rattle.cell_ascii.specs.BufferedCells.{BytesHoldNextCells}
use Rattle.cell_ascii.proofs.short_cells.read_cells_one_by_one.Given as goal

abbrev pub invariant-loop-i : goal.invariant-loop-i
invariant-loop-i l = record {
  within : l.passed ≤ length l.buffered;
  cells : BytesHoldNextCells l.header l.buffered (take l.i l.row) l.i l.passed;
  rest : drop l.i l.row ≡ drop l.i l.fn.row;
}
