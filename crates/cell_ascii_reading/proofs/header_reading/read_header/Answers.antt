use Rattle.std.proofs.Common.{◌≡◌, ◌-◌, ◌∙◌, arith, rules, ap, Some, None, Err}
use Rattle.cell_core_devices.specs.Asking.{SourceKnowledge}
use Rattle.cell_core_devices.specs.Device.{ComingBytes}
use Rattle.cell_ascii_reading.specs.Ahead.{bytes_to_come_for_content}
use Rattle.cell_ascii_meaning.specs.Header.{rest_of_header_from_line}
use Rattle.cell_ascii_reading.proofs.OpeningLemmas.{header_goes, header_stops, header_fails, header_none}
use Rattle.cell_ascii_reading.proofs.MapLemmas.{chain, map_same}
use Rattle.cell_ascii_meaning.specs.GridTokens.{grid_fault_at_line}
use Rattle.cell_ascii_meaning.specs.declared.grid_fault.GridKind.TheVariants.{BadHeader}
use Rattle.cell_ascii_reading.proofs.header_reading.read_header.Goals as goal

pub loop-preserved : goal.loop-preserved
loop-preserved g c =
    let s = c.args.scanner.now in
    let t = c.loop.scanner in
    let u = c.read_header_line.new.scanner in
    record {
      header = header_goes (rest_of_header_from_line 10 c.args.keys.now s.line s.run) (bytes_to_come_for_content s.ahead) (bytes_to_come_for_content t.ahead) (bytes_to_come_for_content u.ahead) c.loop.counter c.loop.keys t.line t.run (omega arith)
          c.loop.invariant.header c.read_header_line.new.keys u.line u.run (rw c.in-Ok-Key.field-0-is at c.in-Ok-Key.ensures.line);
      lines = omega (arith, c.in-Ok-Key.ensures.lines);
      run = search rules;
      sure = ap (λ (h : SourceKnowledge). h.sure) c.in-Ok-Key.ensures.heard ∙ c.loop.invariant.sure;
      failed = λ _. ap (λ (h : SourceKnowledge). h.failed) c.in-Ok-Key.ensures.heard;
    }

pub returns-in-Ok-Data-clause-header : goal.returns-in-Ok-Data-clause-header
returns-in-Ok-Data-clause-header g c =
    let s = c.args.scanner.now in
    let t = c.loop.scanner in
    let u = c.read_header_line.new.scanner in
    header_stops (rest_of_header_from_line 10 c.args.keys.now s.line s.run) (bytes_to_come_for_content s.ahead) (bytes_to_come_for_content t.ahead) (bytes_to_come_for_content u.ahead) c.loop.counter c.loop.keys t.line t.run (omega arith)
    c.loop.invariant.header c.read_header_line.new.keys u.line (Some u.word) (rw c.in-Ok-Data.field-0-is at c.in-Ok-Data.ensures.line)

pub returns-in-Ok-Last-clause-header : goal.returns-in-Ok-Last-clause-header
returns-in-Ok-Last-clause-header g c =
    let s = c.args.scanner.now in
    let t = c.loop.scanner in
    let u = c.read_header_line.new.scanner in
    header_stops (rest_of_header_from_line 10 c.args.keys.now s.line s.run) (bytes_to_come_for_content s.ahead) (bytes_to_come_for_content t.ahead) (bytes_to_come_for_content u.ahead) c.loop.counter c.loop.keys t.line t.run (omega arith)
    c.loop.invariant.header c.read_header_line.new.keys u.line None
    (rw c.in-Ok-Last.field-0-is at c.in-Ok-Last.ensures.line)

pub returns-in-Err-clause-header : goal.returns-in-Err-clause-header
returns-in-Err-clause-header g c =
    let s = c.args.scanner.now in
    let t = c.loop.scanner in
    let u = c.read_header_line.new.scanner in
    header_fails (rest_of_header_from_line 10 c.args.keys.now s.line s.run) (bytes_to_come_for_content s.ahead) (bytes_to_come_for_content t.ahead) (bytes_to_come_for_content u.ahead) c.loop.counter c.loop.keys t.line t.run (omega arith)
    c.loop.invariant.header c.in-Err.fault c.in-Err.ensures.line

pub returns-clause-header : goal.returns-clause-header
returns-clause-header g c =
    let t = c.loop.scanner in
    let none : 10 - c.loop.counter ≡ 0 = omega arith in
    rw (c.bad_header_fault.ensures, c.line.ensures)
    (chain _ _ _ _ _ _ (rw none at c.loop.invariant.header) (map_same
    (rest_of_header_from_line 0 c.loop.keys t.line t.run)
    (λ (x : ComingBytes). Err (grid_fault_at_line BadHeader t.line)) (bytes_to_come_for_content t.ahead)
    (header_none c.loop.keys t.line t.run)))
