use Rattle.std.proofs.Common.{◌≤◌, ◌-◌, ◌*◌, length, take}
use Rattle.cell_core_values.specs.SmallCells.{cells_of_bytes}
use Rattle.cell_ascii_meaning.specs.Header.{GridHeaderContents}
use Rattle.cell_ascii.specs.TableWords.{BytesHoldNextCellsAndLineFeeds}
use Rattle.cell_ascii_reading.specs.InRange.{DigitWordsDenoteTheirNumber}
use Rattle.cell_ascii_lanes.specs.NullLanes.{IsNullKey}
use Rattle.cell_ascii.proofs.byte_words.words_in.Given as goal

abbrev pub invariant-blocks-2 : goal.invariant-blocks-2
invariant-blocks-2 l = record {
  count : l.i ≤ l.most;
  within : l.passed ≤ length l.buffered;
  cells : (h : GridHeaderContents) → DigitWordsDenoteTheirNumber h → IsNullKey h.null_text l.key l.size
      → BytesHoldNextCellsAndLineFeeds h l.buffered (cells_of_bytes (take l.i l.row)) l.i l.passed l.lines;
  fewer : l.lines ≤ l.passed;
  few : l.lines ≤ l.i * 64;
}

abbrev pub decreases-blocks-2 : goal.decreases-blocks-2
decreases-blocks-2 l = l.most - l.i
