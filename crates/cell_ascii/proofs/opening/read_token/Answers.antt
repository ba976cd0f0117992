use Rattle.std.proofs.lemmas.Result.{err_from_is_err_and}
use Rattle.std.proofs.Common.{Err}
use Rattle.cell_ascii_meaning.specs.GridTokens.{next_word_start}
use Rattle.cell_ascii_reading.specs.Ahead.{bytes_to_come_for_content}
use Rattle.cell_ascii_reading.specs.Scan.{word_start_from_call_result}
use Rattle.cell_ascii_reading.proofs.MapLemmas.{then_map}
use Rattle.cell_ascii.specs.Reader.{next_word_with_line}
use Rattle.cell_ascii.proofs.opening.read_token.Goals as goal

pub returns-in_err-skip_spaces-clause-token : goal.returns-in_err-skip_spaces-clause-token
returns-in_err-skip_spaces-clause-token g c =
    let s = c.args.scanner.now in
    let t = c.skip_spaces.new.self in
    let p = err_from_is_err_and c.from_residual.result c.from_residual.ensures.1 in
    rw (p.1, p.2)
    (then_map next_word_with_line (next_word_start s.line s.run) (word_start_from_call_result (Err c.in_err-skip_spaces.field-0.0) t.line) (bytes_to_come_for_content s.ahead) (bytes_to_come_for_content t.ahead) c.in_err-skip_spaces.ensures.starts)
