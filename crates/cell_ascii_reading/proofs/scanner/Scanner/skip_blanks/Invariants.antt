use Rattle.std.proofs.Common.{◌≡◌, ◌-◌, ◌≤◌}
use Rattle.cell_ascii_reading.specs.Ahead.{ScanResultsBeforeAndAfterAgree}
use Rattle.cell_ascii_meaning.specs.Header.{end_of_continued_blank_run}
use Rattle.cell_ascii_reading.proofs.scanner.Scanner.skip_blanks.Given as goal

abbrev pub invariant-blanks : goal.invariant-blanks
invariant-blanks g l = record {
  gap : ScanResultsBeforeAndAfterAgree (end_of_continued_blank_run l.fn.self.line l.fn.self.run) l.fn.self.ahead
      (end_of_continued_blank_run l.self.line l.self.run) l.self.ahead;
  line : l.self.line ≡ l.fn.self.line;
  run : l.self.run ≤ 1048576;
  word : l.self.word ≡ l.fn.self.word;
  sure : l.self.ahead.heard.sure ≡ l.fn.self.ahead.heard.sure;
}

abbrev pub decreases-blanks : goal.decreases-blanks
decreases-blanks g l = 1048576 - l.self.run
