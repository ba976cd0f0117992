use Rattle.std.proofs.Common.{◌∙◌, ◌-◌, Ok, Err, false, sym, ap, length, take, drop}
use Rattle.std.proofs.lemmas.Result.{IfOk-from_err, err_from_is_err_and}
use Rattle.cell_core_devices.specs.Asking.{source_knowledge_after_calls}
use Rattle.cell_ascii_reading.specs.Ahead.{bytes_to_come_for_content}
use Rattle.cell_ascii_reading.proofs.OpeningLemmas.{key_done, key_given, key_refused, key_unended, key_unread}
use Rattle.cell_ascii_reading.proofs.KindLemmas.{key_kind, key_reported}
use Rattle.cell_ascii_reading.proofs.header_reading.read_rest_of_header_key_line.Goals as goal

pub returns-in-Ok-clause-key : goal.returns-in-Ok-clause-key
returns-in-Ok-clause-key g c =
    let s = c.args.scanner.now in
    let t = c.read_header_value_start.new.scanner in
    let u = c.read_header_line_end.new.scanner in
    let given =
    key_given c.args.keys.now (Ok c.give.new.self) s.word c.word.result.now c.word-2.result.now t.word
    c.args.colon c.in_ok-start.start c.header_key_with_name-key.result
    c.requires.colon c.word.ensures.value c.header_key_with_name-key.ensures
    (c.word-2.ensures.value ∙ c.in_ok-ending.ensures.word) (sym c.in-Ok.ensures.ok) in
    key_done s.line c.args.keys.now s.word t.word c.in_ok-start.start u.run c.in_ok-ending.ending c.give.new.self (bytes_to_come_for_content s.ahead) (bytes_to_come_for_content t.ahead) (bytes_to_come_for_content u.ahead)
    (rw c.requires.colon at c.in_ok-start.ensures.value)
    (rw c.in_ok-start.ensures.ok.line at c.in_ok-ending.ensures.ending) given

pub returns-in-Err-clause-kind : goal.returns-in-Err-clause-kind
returns-in-Err-clause-kind g c = key_kind c.args.keys.now c.header_key_with_name-key.result (take (length c.word-2.result.now - c.in_ok-start.start) (drop c.in_ok-start.start c.word-2.result.now)) c.in-Err.kind c.in-Err.ensures.err

pub returns-in_err-start-clause-key : goal.returns-in_err-start-clause-key
returns-in_err-start-clause-key g c =
    let s = c.args.scanner.now in
    let t = c.read_header_value_start.new.scanner in
    let p = err_from_is_err_and c.from_residual.result c.from_residual.ensures.1 in
    rw (p.1, p.2)
    (key_unread s.line c.args.keys.now s.word t.word t.run c.args.keys.now c.in_err-start.field-0.0 (bytes_to_come_for_content s.ahead)
    (bytes_to_come_for_content t.ahead)
    (rw c.requires.colon at c.in_err-start.ensures.value))

pub returns-in_err-start-clause-ok : goal.returns-in_err-start-clause-ok
returns-in_err-start-clause-ok g c = IfOk-from_err c.from_residual.result _ c.from_residual.ensures.0

pub returns-in_err-start-clause-kind : goal.returns-in_err-start-clause-kind
returns-in_err-start-clause-kind g c =
    let p = err_from_is_err_and c.from_residual.result c.from_residual.ensures.1 in
    rw (p.1, p.2) c.in_err-start.ensures.kind

pub returns-in_err-ending-clause-key : goal.returns-in_err-ending-clause-key
returns-in_err-ending-clause-key g c =
    let s = c.args.scanner.now in
    let t = c.read_header_value_start.new.scanner in
    let u = c.read_header_line_end.new.scanner in
    let p = err_from_is_err_and c.from_residual-in_err-ending.result c.from_residual-in_err-ending.ensures.1 in
    rw (p.1, p.2)
    (key_unended s.line c.args.keys.now s.word t.word c.in_ok-start.start u.run c.args.keys.now
    c.in_err-ending.field-0.0 (bytes_to_come_for_content s.ahead) (bytes_to_come_for_content t.ahead)
    (bytes_to_come_for_content u.ahead)
    (rw c.requires.colon at c.in_ok-start.ensures.value) (rw c.in_ok-start.ensures.ok.line at
    c.in_err-ending.ensures.ending))

pub returns-in_err-ending-clause-ok : goal.returns-in_err-ending-clause-ok
returns-in_err-ending-clause-ok g c =
    IfOk-from_err c.from_residual-in_err-ending.result _ c.from_residual-in_err-ending.ensures.0

pub returns-in_err-ending-clause-kind : goal.returns-in_err-ending-clause-kind
returns-in_err-ending-clause-kind g c =
    let p = err_from_is_err_and c.from_residual-in_err-ending.result c.from_residual-in_err-ending.ensures.1 in
    rw (p.1, p.2) c.in_err-ending.ensures.kind

pub returns-in-Ok-clause-ok : goal.returns-in-Ok-clause-ok
returns-in-Ok-clause-ok g c = rw c.in_ok-start.ensures.ok.line at c.in_ok-ending.ensures.ok

pub returns-in-Err-clause-key : goal.returns-in-Err-clause-key
returns-in-Err-clause-key g c =
    let s = c.args.scanner.now in
    let t = c.read_header_value_start.new.scanner in
    let u = c.read_header_line_end.new.scanner in
    let given =
    key_given c.args.keys.now (Err c.in-Err.kind) s.word c.word.result.now c.word-2.result.now t.word c.args.colon
    c.in_ok-start.start c.header_key_with_name-key.result
    c.requires.colon c.word.ensures.value c.header_key_with_name-key.ensures
    (c.word-2.ensures.value ∙ c.in_ok-ending.ensures.word)
    (sym c.in-Err.ensures.err) in
    rw c.line-line.ensures
    (key_refused s.line c.args.keys.now s.word t.word c.in_ok-start.start u.run c.in_ok-ending.ending c.give.new.self
    c.in-Err.kind (bytes_to_come_for_content s.ahead) (bytes_to_come_for_content t.ahead)
    (bytes_to_come_for_content u.ahead)
    (rw c.requires.colon at c.in_ok-start.ensures.value) (rw c.in_ok-start.ensures.ok.line at
    c.in_ok-ending.ensures.ending) given)

pub returns-in-Err-clause-heard : goal.returns-in-Err-clause-heard
returns-in-Err-clause-heard g c =
    let reported = key_reported c.args.keys.now c.header_key_with_name-key.result (take (length c.word-2.result.now - c.in_ok-start.start) (drop c.in_ok-start.start c.word-2.result.now)) c.in-Err.kind c.in-Err.ensures.err in
    rw reported (c.in_ok-ending.ensures.heard ∙ ap (source_knowledge_after_calls false) c.in_ok-start.ensures.heard)
