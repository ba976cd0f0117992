use Rattle.std.proofs.Common.{◌≡◌, ◌+◌, ◌-◌, ◌≤◌}
use Rattle.cell_ascii_reading.specs.Ahead.{ScanResultsBeforeAndAfterAgree}
use Rattle.cell_ascii_meaning.specs.GridTokens.{next_word_start}
use Rattle.cell_ascii_reading.proofs.scanner.Scanner.skip_spaces.Given as goal

abbrev pub invariant-spaces : goal.invariant-spaces
invariant-spaces g l = record {
  starts : ScanResultsBeforeAndAfterAgree (next_word_start l.fn.self.line l.fn.self.run) l.fn.self.ahead
      (next_word_start l.self.line l.self.run) l.self.ahead;
  lines : l.self.line + l.fn.self.run ≤ l.fn.self.line + l.self.run;
  run : l.self.run ≤ 1048576;
  further : l.fn.self.run ≤ l.self.run;
  word : l.self.word ≡ l.fn.self.word;
  sure : l.self.ahead.heard.sure ≡ l.fn.self.ahead.heard.sure;
}

abbrev pub decreases-spaces : goal.decreases-spaces
decreases-spaces g l = 1048576 - l.self.run
