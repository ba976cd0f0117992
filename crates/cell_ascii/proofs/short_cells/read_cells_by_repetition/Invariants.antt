use Rattle.std.proofs.Common.{◌≡◌, ◌-◌, ◌≤◌, length, take, drop}
use Rattle.cell_ascii.specs.BufferedCells.{BytesHoldNextCells}
use Rattle.cell_ascii.proofs.short_cells.read_cells_by_repetition.Given as goal

abbrev pub invariant-words : goal.invariant-words
invariant-words l = record {
  low : l.i ≤ length l.row;
  within : l.passed ≤ length l.buffered;
  cells : BytesHoldNextCells l.header l.buffered (take l.i l.row) l.i l.passed;
  rest : drop l.i l.row ≡ drop l.i l.fn.row;
}

abbrev pub decreases-words : goal.decreases-words
decreases-words l = length l.row - l.i
