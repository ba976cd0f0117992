use Rattle.std.proofs.Common.{◌≡◌, ◌+◌, ◌-◌, ◌≤◌, ◌*◌, length, take, drop}
use Rattle.cell_ascii.specs.TableWords.{BytesHoldNextCellsAndLineFeeds}
use Rattle.cell_ascii.proofs.short_cells.cells_in.Given as goal

abbrev pub invariant-ways : goal.invariant-ways
invariant-ways l = record {
  low : l.i ≤ length l.row;
  within : l.passed ≤ length l.buffered;
  cells : BytesHoldNextCellsAndLineFeeds l.fn.words l.buffered (take l.i l.row) l.i l.passed l.lines;
  same : l.words ≡ l.fn.words;
  among : l.lines ≤ l.passed;
  lines : l.lines ≤ l.i * 64;
  rest : drop l.i l.row ≡ drop l.i l.fn.row;
}

abbrev pub decreases-ways : goal.decreases-ways
decreases-ways l = (length l.row - l.i) * 4 + l.tries
