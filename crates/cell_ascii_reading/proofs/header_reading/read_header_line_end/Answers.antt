use Rattle.std.proofs.Common.{◌≡◌, ◌≤◌, ◌+◌, ℕ, Ok, Err, ap, arith}
use Rattle.std.proofs.lemmas.Result.{IfOk-from_err, err_from_is_err_and}
use Rattle.cell_ascii_reading.specs.Ahead.{bytes_to_come_for_content}
use Rattle.cell_ascii_reading.specs.Scan.{blank_run_end_from_call_result}
use Rattle.cell_ascii_reading.specs.declared.scanner.WordOrLineEnd.TheVariants.{Word, Feed, End}
use Rattle.cell_ascii_meaning.specs.Header.{end_of_continued_blank_run, header_line_end_or_fault}
use Rattle.cell_ascii_reading.proofs.MapLemmas.{then_map}
use Rattle.cell_ascii_reading.proofs.header_reading.read_header_line_end.Goals as goal

next_line : (now line : ℕ) → now ≡ line + 1 → now ≤ line + 1
next_line now line e = omega arith

same_line : (now line : ℕ) → now ≡ line → now ≤ line + 1
same_line now line e = omega arith

pub returns-in_err-skip_blanks-clause-ending : goal.returns-in_err-skip_blanks-clause-ending
returns-in_err-skip_blanks-clause-ending g c =
    let s = c.args.scanner.now in
    let t = c.skip_blanks.new.self in
    let p = err_from_is_err_and c.from_residual.result c.from_residual.ensures.1 in
    rw (p.1, p.2)
    (then_map (header_line_end_or_fault s.line) (end_of_continued_blank_run s.line 0)
    (blank_run_end_from_call_result (Err c.in_err-skip_blanks.field-0.0) t.run)
    (bytes_to_come_for_content s.ahead) (bytes_to_come_for_content t.ahead)
    (rw c.requires.run at c.in_err-skip_blanks.ensures.gap))

pub returns-in_err-skip_blanks-clause-ok : goal.returns-in_err-skip_blanks-clause-ok
returns-in_err-skip_blanks-clause-ok g c = IfOk-from_err c.from_residual.result _ c.from_residual.ensures.0

pub returns-in_err-skip_blanks-clause-word : goal.returns-in_err-skip_blanks-clause-word
returns-in_err-skip_blanks-clause-word g c = IfOk-from_err c.from_residual.result _ c.from_residual.ensures.0

pub returns-in_err-skip_blanks-clause-kind : goal.returns-in_err-skip_blanks-clause-kind
returns-in_err-skip_blanks-clause-kind g c =
    let p = err_from_is_err_and c.from_residual.result c.from_residual.ensures.1 in
    rw (p.1, p.2) c.in_err-skip_blanks.ensures.kind

pub returns-in-Word-clause-ending : goal.returns-in-Word-clause-ending
returns-in-Word-clause-ending g c =
    let s = c.args.scanner.now in
    let t = c.skip_blanks.new.self in
    rw (c.bad_header_fault.ensures, c.line-line.ensures)
    (then_map (header_line_end_or_fault s.line) (end_of_continued_blank_run s.line 0) (blank_run_end_from_call_result (Ok Word) t.run) (bytes_to_come_for_content s.ahead) (bytes_to_come_for_content t.ahead)
    (rw (c.requires.run, c.in-Word.is) at c.in_ok-skip_blanks.ensures.gap))

pub returns-in-Word-clause-kind : goal.returns-in-Word-clause-kind
returns-in-Word-clause-kind g c = rw c.bad_header_fault.ensures tt

pub returns-in-Feed-clause-ending : goal.returns-in-Feed-clause-ending
returns-in-Feed-clause-ending g c =
    let s = c.args.scanner.now in
    let t = c.skip_blanks.new.self in
    then_map (header_line_end_or_fault s.line) (end_of_continued_blank_run s.line 0) (blank_run_end_from_call_result (Ok Feed) t.run) (bytes_to_come_for_content s.ahead) (bytes_to_come_for_content t.ahead)
    (rw (c.requires.run, c.in-Feed.is) at c.in_ok-skip_blanks.ensures.gap)

pub returns-in-Feed-clause-ok : goal.returns-in-Feed-clause-ok
returns-in-Feed-clause-ok g c =
    let line = rw c.in-Feed.is at c.in_ok-skip_blanks.ensures.line in
    record {
      line = line;
      lines = next_line _ _ line;
      run = c.skip_blanks.ensures.run;
      end = tt;
    }

pub returns-in-End-clause-ending : goal.returns-in-End-clause-ending
returns-in-End-clause-ending g c =
    let s = c.args.scanner.now in
    let t = c.skip_blanks.new.self in
    then_map (header_line_end_or_fault s.line) (end_of_continued_blank_run s.line 0) (blank_run_end_from_call_result (Ok End) t.run) (bytes_to_come_for_content s.ahead) (bytes_to_come_for_content t.ahead)
    (rw (c.requires.run, c.in-End.is) at c.in_ok-skip_blanks.ensures.gap)

pub returns-in-End-clause-ok : goal.returns-in-End-clause-ok
returns-in-End-clause-ok g c =
    let line = rw c.in-End.is at c.in_ok-skip_blanks.ensures.line in
    record {
      line = line;
      lines = same_line _ _ line;
      run = c.skip_blanks.ensures.run;
      end = c.in_ok-skip_blanks.ensures.end (ap Ok c.in-End.is);
    }
