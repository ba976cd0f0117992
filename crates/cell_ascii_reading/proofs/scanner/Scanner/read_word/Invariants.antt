use Rattle.std.proofs.Common.{◌≡◌, ◌-◌, ◌≤◌, [], length}
use Rattle.cell_ascii_reading.specs.Ahead.{ScanResultsBeforeAndAfterAgree}
use Rattle.cell_ascii_meaning.specs.GridTokens.{word_continued_in_bytes}
use Rattle.cell_ascii_reading.proofs.scanner.Scanner.read_word.Given as goal

abbrev pub invariant-word : goal.invariant-word
invariant-word g l = record {
  word : ScanResultsBeforeAndAfterAgree (word_continued_in_bytes l.fn.self.line []) l.fn.self.ahead
      (word_continued_in_bytes l.self.line l.self.word) l.self.ahead;
  line : l.self.line ≡ l.fn.self.line;
  run : l.self.run ≡ 0;
  short : length l.self.word ≤ 64;
  sure : l.self.ahead.heard.sure ≡ l.fn.self.ahead.heard.sure;
}

abbrev pub decreases-word : goal.decreases-word
decreases-word g l = 64 - length l.self.word
