use Rattle.std.proofs.Common.{◌≡◌, ◌∙◌, ℕ, ◌<◌, ◌≤◌, Ok, Err, refl, arith, List, length, drop, length-drop}
use Rattle.std.proofs.lemmas.Result.{IfOk-from_err, err_from_is_err_and}
use Rattle.cell_ascii_reading.specs.Ahead.{bytes_to_come_for_content}
use Rattle.cell_ascii_reading.specs.Scan.{blank_run_end_from_call_result}
use Rattle.cell_ascii_reading.specs.declared.scanner.WordOrLineEnd.TheVariants.{Word, Feed, End}
use Rattle.cell_ascii_meaning.specs.Header.{header_value_after_colon}
use Rattle.cell_ascii_reading.specs.Opening.{header_value_from_call_result}
use Rattle.cell_ascii_reading.proofs.MapLemmas.{chain, map_same}
use Rattle.cell_ascii_reading.proofs.OpeningLemmas.{value_blanks, value_here}
use Rattle.cell_ascii_reading.proofs.header_reading.read_header_value_start.Goals as goal

below_most : (a b : ℕ) → a < b → a ≤ b
below_most a b h = omega arith

least : (n : ℕ) → 0 ≤ n
least n = omega arith

-- a list has items after each index within it
some_behind : {A : Type 0} (at : ℕ) (xs : List A) → at < length xs → 0 < length (drop at xs)
some_behind at xs h = omega (arith, length-drop at xs)

pub returns-then-start-word-clause-value : goal.returns-then-start-word-clause-value
returns-then-start-word-clause-value g c =
    let s = c.args.scanner.now in
    let before : c.args.start < length s.word = rw c.word.ensures.value at c.if-start-word.true in
    let some : 0 < length (drop c.args.start s.word) = some_behind c.args.start s.word before in
    map_same (header_value_after_colon s.line (drop c.args.start s.word)) (header_value_from_call_result (Ok c.args.start) s.word) (bytes_to_come_for_content s.ahead) (λ x. value_here s.line (drop c.args.start s.word) x some)

pub returns-then-start-word-clause-ok : goal.returns-then-start-word-clause-ok
returns-then-start-word-clause-ok g c = record {
  line = refl;
  run = c.requires.run;
  within = below_most _ _ (rw c.word.ensures.value at c.if-start-word.true);
}

pub returns-then-start-word-clause-kind : goal.returns-then-start-word-clause-kind
returns-then-start-word-clause-kind g c = tt

pub returns-in_err-skip_blanks-clause-value : goal.returns-in_err-skip_blanks-clause-value
returns-in_err-skip_blanks-clause-value g c =
    let s = c.args.scanner.now in
    let t = c.skip_blanks.new.self in
    let long : length s.word ≤ c.args.start = rw c.word.ensures.value at c.if-start-word.false in
    let p = err_from_is_err_and c.from_residual.result c.from_residual.ensures.1 in
    rw (p.1, p.2)
    (value_blanks s.line c.args.start s.word (blank_run_end_from_call_result (Err c.in_err-skip_blanks.field-0.0) t.run) (bytes_to_come_for_content s.ahead)
    (bytes_to_come_for_content t.ahead) long (rw c.requires.run at c.in_err-skip_blanks.ensures.gap))

pub returns-in_err-skip_blanks-clause-ok : goal.returns-in_err-skip_blanks-clause-ok
returns-in_err-skip_blanks-clause-ok g c = IfOk-from_err c.from_residual.result _ c.from_residual.ensures.0

pub returns-in_err-skip_blanks-clause-kind : goal.returns-in_err-skip_blanks-clause-kind
returns-in_err-skip_blanks-clause-kind g c =
    let p = err_from_is_err_and c.from_residual.result c.from_residual.ensures.1 in
    rw (p.1, p.2) c.in_err-skip_blanks.ensures.kind

pub returns-in_err-read_word-in-Word-clause-value : goal.returns-in_err-read_word-in-Word-clause-value
returns-in_err-read_word-in-Word-clause-value g c =
    let s = c.args.scanner.now in
    let t = c.skip_blanks.new.self in
    let long : length s.word ≤ c.args.start = rw c.word.ensures.value at c.if-start-word.false in
    let same : t.line ≡ s.line = rw c.in-Word.is at c.in_ok-skip_blanks.ensures.line in
    let p =
    err_from_is_err_and c.from_residual-in_err-read_word-in-Word.result
    c.from_residual-in_err-read_word-in-Word.ensures.1 in
    rw (p.1, p.2)
    (chain _ _ _ _ _ _
    (value_blanks s.line c.args.start s.word (blank_run_end_from_call_result (Ok Word) t.run) (bytes_to_come_for_content s.ahead) (bytes_to_come_for_content t.ahead) long
    (rw (c.requires.run, c.in-Word.is) at c.in_ok-skip_blanks.ensures.gap))
    (rw same at c.in_err-read_word-in-Word.ensures.word))

pub returns-in_err-read_word-in-Word-clause-ok : goal.returns-in_err-read_word-in-Word-clause-ok
returns-in_err-read_word-in-Word-clause-ok g c =
    IfOk-from_err c.from_residual-in_err-read_word-in-Word.result _ c.from_residual-in_err-read_word-in-Word.ensures.0

pub returns-in_err-read_word-in-Word-clause-kind : goal.returns-in_err-read_word-in-Word-clause-kind
returns-in_err-read_word-in-Word-clause-kind g c =
    let p =
    err_from_is_err_and c.from_residual-in_err-read_word-in-Word.result
    c.from_residual-in_err-read_word-in-Word.ensures.1 in
    rw (p.1, p.2) c.in_err-read_word-in-Word.ensures.kind

pub returns-in_ok-read_word-in-Word-clause-value : goal.returns-in_ok-read_word-in-Word-clause-value
returns-in_ok-read_word-in-Word-clause-value g c =
    let s = c.args.scanner.now in
    let t = c.skip_blanks.new.self in
    let long : length s.word ≤ c.args.start = rw c.word.ensures.value at c.if-start-word.false in
    let same : t.line ≡ s.line = rw c.in-Word.is at c.in_ok-skip_blanks.ensures.line in
    chain _ _ _ _ _ _
    (value_blanks s.line c.args.start s.word (blank_run_end_from_call_result (Ok Word) t.run)
    (bytes_to_come_for_content s.ahead)
    (bytes_to_come_for_content t.ahead) long
    (rw (c.requires.run, c.in-Word.is) at c.in_ok-skip_blanks.ensures.gap))
    (rw same at c.in_ok-read_word-in-Word.ensures.word)

pub returns-in_ok-read_word-in-Word-clause-ok : goal.returns-in_ok-read_word-in-Word-clause-ok
returns-in_ok-read_word-in-Word-clause-ok g c = record {
  line = c.read_word.ensures.line ∙ (rw c.in-Word.is at c.in_ok-skip_blanks.ensures.line);
  run = c.read_word.ensures.run;
  within = least _;
}

pub returns-in_ok-read_word-in-Word-clause-kind : goal.returns-in_ok-read_word-in-Word-clause-kind
returns-in_ok-read_word-in-Word-clause-kind g c = tt

pub returns-in-Feed-clause-value : goal.returns-in-Feed-clause-value
returns-in-Feed-clause-value g c =
    let s = c.args.scanner.now in
    let t = c.skip_blanks.new.self in
    let long : length s.word ≤ c.args.start = rw c.word.ensures.value at c.if-start-word.false in
    rw (c.bad_header_fault.ensures, c.line-line.ensures)
    (value_blanks s.line c.args.start s.word (blank_run_end_from_call_result (Ok Feed) t.run) (bytes_to_come_for_content s.ahead) (bytes_to_come_for_content t.ahead) long
    (rw (c.requires.run, c.in-Feed.is) at c.in_ok-skip_blanks.ensures.gap))

pub returns-in-Feed-clause-kind : goal.returns-in-Feed-clause-kind
returns-in-Feed-clause-kind g c = rw c.bad_header_fault.ensures tt

pub returns-in-End-clause-value : goal.returns-in-End-clause-value
returns-in-End-clause-value g c =
    let s = c.args.scanner.now in
    let t = c.skip_blanks.new.self in
    let long : length s.word ≤ c.args.start = rw c.word.ensures.value at c.if-start-word.false in
    rw (c.bad_header_fault-in-End.ensures, c.line-line.ensures)
    (value_blanks s.line c.args.start s.word (blank_run_end_from_call_result (Ok End) t.run) (bytes_to_come_for_content s.ahead) (bytes_to_come_for_content t.ahead) long
    (rw (c.requires.run, c.in-End.is) at c.in_ok-skip_blanks.ensures.gap))

pub returns-in-End-clause-kind : goal.returns-in-End-clause-kind
returns-in-End-clause-kind g c = rw c.bad_header_fault-in-End.ensures tt
