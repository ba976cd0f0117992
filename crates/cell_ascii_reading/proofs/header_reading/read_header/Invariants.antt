use Rattle.std.proofs.Common.{◌≡◌, ◌+◌, ◌-◌, ◌*◌, ◌<◌, ◌≤◌, false}
use Rattle.cell_ascii_reading.specs.Ahead.{ScanResultsBeforeAndAfterAgree}
use Rattle.cell_ascii_meaning.specs.Header.{rest_of_header_from_line}
use Rattle.cell_ascii_reading.proofs.header_reading.read_header.Given as goal

abbrev pub invariant-loop : goal.invariant-loop
invariant-loop g l =
    let s = l.fn.scanner in
    record {
      header : ScanResultsBeforeAndAfterAgree (rest_of_header_from_line 10 l.fn.keys s.line s.run) s.ahead
          (rest_of_header_from_line (10 - l.counter) l.keys l.scanner.line l.scanner.run) l.scanner.ahead;
      lines : l.scanner.line ≤ s.line + l.counter * 1048577;
      run : l.scanner.run ≤ 1048576;
      sure : l.scanner.ahead.heard.sure ≡ s.ahead.heard.sure;
      failed : 0 < l.counter → l.scanner.ahead.heard.failed ≡ false;
    }
