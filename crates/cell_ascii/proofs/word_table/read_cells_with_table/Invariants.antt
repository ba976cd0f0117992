use Rattle.std.proofs.Common.{◌≡◌, ◌≤◌, ◌-◌, ◌*◌, ◌<◌, length, take, drop}
use Rattle.std.specs.List.{All}
use Rattle.cell_ascii_reading.specs.InRange.{DigitWordsDenoteTheirNumber}
use Rattle.cell_ascii.specs.TableWords.{BytesHoldNextCellsAndLineFeeds, WordEntryIsFreeOrHoldsCell}
use Rattle.cell_ascii.proofs.word_table.read_cells_with_table.Given as goal

abbrev pub invariant-blocks-2 : goal.invariant-blocks-2
invariant-blocks-2 g l = record {
  low : l.i ≤ length l.row;
  within : l.passed ≤ length l.buffered;
  cells : BytesHoldNextCellsAndLineFeeds l.header l.buffered (take l.i l.row) l.i l.passed l.lines;
  fewer : l.lines ≤ l.passed;
  few : l.lines ≤ l.i * 64;
  rest : drop l.i l.row ≡ drop l.i l.fn.row;
  room : length l.entries ≡ 4096;
  known : All (WordEntryIsFreeOrHoldsCell l.header) l.entries;
  plain : 0 < l.tries → DigitWordsDenoteTheirNumber l.header;
}

abbrev pub decreases-blocks-2 : goal.decreases-blocks-2
decreases-blocks-2 g l = length l.row - l.i
