use Rattle.std.proofs.lemmas.Result.{err_from_is_err_and}
use Rattle.std.proofs.Common.{Err}
use Rattle.cell_ascii_meaning.specs.CellTexts.{text_end_or_fault}
use Rattle.cell_ascii_meaning.specs.GridTokens.{next_word_start}
use Rattle.cell_ascii_reading.specs.Ahead.{bytes_to_come_for_content}
use Rattle.cell_ascii_reading.specs.Scan.{word_start_from_call_result}
use Rattle.cell_ascii_reading.proofs.MapLemmas.{then_map}
use Rattle.cell_ascii.proofs.grid_reader.CellReader.check_only_blanks_are_left.Goals as goal

pub returns-in_err-skip_spaces-clause-end : goal.returns-in_err-skip_spaces-clause-end
returns-in_err-skip_spaces-clause-end g c =
    let s = c.self.inside.scanner in
    let t = c.skip_spaces.new.self in
    let p = err_from_is_err_and c.from_residual.result c.from_residual.ensures.1 in
    rw (p.1, p.2, ← c.self.view_is)
    (then_map text_end_or_fault (next_word_start s.line s.run) (word_start_from_call_result (Err c.in_err-skip_spaces.field-0.0) t.line) (bytes_to_come_for_content s.ahead) (bytes_to_come_for_content t.ahead) c.in_err-skip_spaces.ensures.starts)
