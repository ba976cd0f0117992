use Rattle.std.proofs.Common.{◌≡◌, ◌<◌, ◌≤◌, ◌+◌, ◌∙◌, length, ap, true, false, Err}
use Rattle.std.specs.List.{list_any, position_or_len}
use Rattle.cell_ascii_reading.specs.Ahead.{bytes_to_come_for_content}
use Rattle.cell_ascii_meaning.specs.GridTokens.{next_word_start}
use Rattle.cell_ascii_meaning.specs.Header.{is_colon}
use Rattle.cell_ascii_reading.specs.Opening.{state_after_header_line}
use Rattle.cell_ascii_reading.specs.Scan.{word_start_from_call_result}
use Rattle.cell_ascii_reading.proofs.MapLemmas.{then_map}
use Rattle.cell_ascii_reading.proofs.OpeningLemmas.{any_none, any_within, line_data, line_more, line_last, line_fails}
use Rattle.cell_ascii_reading.proofs.header_reading.read_header_line.Goals as goal

pub returns-then-colon-word-clause-line : goal.returns-then-colon-word-clause-line
returns-then-colon-word-clause-line g c =
    let s = c.args.scanner.now in
    let t = c.skip_spaces.new.self in
    let u = c.read_word.new.self in
    let all : length u.word ≤ c.first_byte_place_or_length-colon.result = rw c.word-2.ensures.value at
    c.if-colon-word.true in
    let place : c.first_byte_place_or_length-colon.result ≡ position_or_len is_colon u.word = rw c.word.ensures.value at c.first_byte_place_or_length-colon.ensures.place in
    let none : list_any is_colon u.word ≡ false = any_none is_colon u.word (rw place at all) in
    rw c.read_word.ensures.line
    (line_data c.args.keys.now s.line s.run t.line u.word (bytes_to_come_for_content s.ahead) (bytes_to_come_for_content t.ahead) (bytes_to_come_for_content u.ahead)
    (rw c.in-Ok-Word.field-0-is at c.in-Ok-Word.ensures.starts) c.in-Ok.ensures.word none)

pub returns-in-Ok-Feed-clause-line : goal.returns-in-Ok-Feed-clause-line
returns-in-Ok-Feed-clause-line g c =
    let s = c.args.scanner.now in
    let t = c.skip_spaces.new.self in
    let u = c.read_word.new.self in
    let v = c.read_rest_of_header_key_line.new.scanner in
    let before : c.first_byte_place_or_length-colon.result < length u.word = rw c.word-2.ensures.value at
    c.if-colon-word.false in
    let place : c.first_byte_place_or_length-colon.result ≡ position_or_len is_colon u.word = rw c.word.ensures.value at c.first_byte_place_or_length-colon.ensures.place in
    let some : list_any is_colon u.word ≡ true = any_within is_colon u.word (rw place at before) in
    let next : v.line ≡ t.line + 1 = (rw c.in-Ok-Feed.field-0-is at c.in-Ok-Feed.ensures.ok).line ∙ ap (λ n. n + 1) c.read_word.ensures.line in
    line_more c.args.keys.now s.line s.run t.line u.word (bytes_to_come_for_content s.ahead) (bytes_to_come_for_content t.ahead) (bytes_to_come_for_content u.ahead)
    (rw c.in-Ok-Word.field-0-is at c.in-Ok-Word.ensures.starts) c.in-Ok.ensures.word some c.read_rest_of_header_key_line.new.keys v.run (bytes_to_come_for_content v.ahead) v.line next
    (rw (c.in-Ok-Feed.field-0-is, c.read_word.ensures.line) at c.in-Ok-Feed.ensures.key)

pub returns-in-Ok-Text-clause-line : goal.returns-in-Ok-Text-clause-line
returns-in-Ok-Text-clause-line g c =
    let s = c.args.scanner.now in
    let t = c.skip_spaces.new.self in
    let u = c.read_word.new.self in
    let v = c.read_rest_of_header_key_line.new.scanner in
    let before : c.first_byte_place_or_length-colon.result < length u.word = rw c.word-2.ensures.value at
    c.if-colon-word.false in
    let place : c.first_byte_place_or_length-colon.result ≡ position_or_len is_colon u.word = rw c.word.ensures.value at c.first_byte_place_or_length-colon.ensures.place in
    let some : list_any is_colon u.word ≡ true = any_within is_colon u.word (rw place at before) in
    let same : v.line ≡ t.line = (rw c.in-Ok-Text.field-0-is at c.in-Ok-Text.ensures.ok).line ∙ c.read_word.ensures.line in
    line_last c.args.keys.now s.line s.run t.line u.word (bytes_to_come_for_content s.ahead) (bytes_to_come_for_content t.ahead) (bytes_to_come_for_content u.ahead)
    (rw c.in-Ok-Word.field-0-is at c.in-Ok-Word.ensures.starts) c.in-Ok.ensures.word some c.read_rest_of_header_key_line.new.keys v.run (bytes_to_come_for_content v.ahead) v.line same
    (rw c.in-Ok-Text.field-0-is at c.in-Ok-Text.ensures.ok).end (rw (c.in-Ok-Text.field-0-is, c.read_word.ensures.line) at c.in-Ok-Text.ensures.key)

pub returns-in-Err-read_rest_of_header_key_line-clause-line :
    goal.returns-in-Err-read_rest_of_header_key_line-clause-line
returns-in-Err-read_rest_of_header_key_line-clause-line g c =
    let s = c.args.scanner.now in
    let t = c.skip_spaces.new.self in
    let u = c.read_word.new.self in
    let v = c.read_rest_of_header_key_line.new.scanner in
    let before : c.first_byte_place_or_length-colon.result < length u.word = rw c.word-2.ensures.value at
    c.if-colon-word.false in
    let place : c.first_byte_place_or_length-colon.result ≡ position_or_len is_colon u.word = rw c.word.ensures.value at c.first_byte_place_or_length-colon.ensures.place in
    let some : list_any is_colon u.word ≡ true = any_within is_colon u.word (rw place at before) in
    line_fails c.args.keys.now s.line s.run t.line u.word (bytes_to_come_for_content s.ahead) (bytes_to_come_for_content t.ahead) (bytes_to_come_for_content u.ahead)
    (rw c.in-Ok-Word.field-0-is at c.in-Ok-Word.ensures.starts) c.in-Ok.ensures.word some c.read_rest_of_header_key_line.new.keys v.run (bytes_to_come_for_content v.ahead) c.in-Err-read_rest_of_header_key_line.fault
    (rw c.read_word.ensures.line at c.in-Err-read_rest_of_header_key_line.ensures.key)

pub returns-in-Err-clause-line : goal.returns-in-Err-clause-line
returns-in-Err-clause-line g c =
    let s = c.args.scanner.now in
    let t = c.skip_spaces.new.self in
    then_map (state_after_header_line c.args.keys.now) (next_word_start s.line s.run)
    (word_start_from_call_result (Err c.in-Err.fault) t.line)
    (bytes_to_come_for_content s.ahead) (bytes_to_come_for_content t.ahead) c.in-Err.ensures.starts
