use Rattle.std.proofs.Common.{◌≡◌, ◌≤◌, ◌-◌, length, take, drop, true}
use Rattle.std.specs.List.{All, list_all}
use Rattle.std.specs.Simd.Lanes.{mask_l}
use Rattle.cell_ascii_meaning.specs.GridTokens.{is_space, line_feed_count}
use Rattle.cell_ascii.specs.TableWords.{BytesHoldNextCellsAndLineFeeds, WordEntryIsFreeOrHoldsCell, blanks}
use Rattle.cell_ascii.specs.TableWords.{flags_with_first_cleared}
use Rattle.cell_ascii.proofs.word_table.read_block_words_as_cells.Given as goal

abbrev pub invariant-words : goal.invariant-words
invariant-words g l = record {
  within : l.at ≤ 64;
  behind : l.last ≤ l.at;
  inside : l.last ≤ 63;
  low : l.i ≤ length l.row;
  ends : l.ends ≡ mask_l (flags_with_first_cleared l.at (blanks l.buffered));
  gap : list_all is_space (take (l.at - l.last) (drop l.last l.buffered)) ≡ true;
  cells : BytesHoldNextCellsAndLineFeeds l.header l.buffered (take l.i l.row) l.i l.last
      (line_feed_count (take l.last l.buffered));
  rest : drop l.i l.row ≡ drop l.i l.fn.row;
  room : length l.entries ≡ 4096;
  known : All (WordEntryIsFreeOrHoldsCell l.header) l.entries;
}

abbrev pub decreases-words : goal.decreases-words
decreases-words g l = 64 - l.at
