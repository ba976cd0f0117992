use Rattle.std.proofs.Common.{◌≡◌, ◌≤◌, ◌<◌, ◌+◌, ◌-◌, length, take, drop, get_or, true}
use Rattle.std.specs.Simd.Lanes.{mask_l}
use Rattle.cell_ascii_meaning.specs.GridTokens.{is_space, line_feed_count}
use Rattle.cell_ascii_meaning.specs.Header.{GridHeaderContents}
use Rattle.cell_ascii.specs.TableWords.{BytesHoldNextCellsAndLineFeeds, blanks, flags_with_first_cleared}
use Rattle.cell_ascii_reading.specs.InRange.{DigitWordsDenoteTheirNumber}
use Rattle.cell_ascii.proofs.number_words.read_numbers_of_block.Given as goal

abbrev pub invariant-pairs : goal.invariant-pairs
invariant-pairs l = record {
  within : l.last < 64;
  low : l.i ≤ length l.row;
  blank : is_space (get_or l.buffered l.last 0) ≡ true;
  ends : l.ends ≡ mask_l (flags_with_first_cleared (l.last + 1) (blanks l.buffered));
  cells : (h : GridHeaderContents) → DigitWordsDenoteTheirNumber h
      → BytesHoldNextCellsAndLineFeeds h l.buffered (take l.i l.row) l.i l.last
      (line_feed_count (take l.last l.buffered));
  rest : drop l.i l.row ≡ drop l.i l.fn.row;
}

abbrev pub decreases-pairs : goal.decreases-pairs
decreases-pairs l = 64 - l.last
