use Rattle.std.proofs.lemmas.Result.{err_from_is_err_and}
use Rattle.std.proofs.Common.{◌≡◌, ◌≢◌, Err}
use Rattle.cell_ascii_meaning.specs.CellTexts.{map_denoted_by_text}
use Rattle.cell_ascii_meaning.specs.declared.grid_fault.GridKind.TheVariants.{Memory}
use Rattle.cell_ascii_reading.specs.Ahead.{bytes_to_come_for_content}
use Rattle.cell_ascii_reading.proofs.LeadLemmas.{implied}
use Rattle.cell_ascii.proofs.DataLemmas.{rows_fault, end_fails, whole_read}
use Rattle.cell_ascii.proofs.grid_reader.read_all_rows_and_end.Goals as goal

pub returns-in_err-map-clause-reading : goal.returns-in_err-map-clause-reading
returns-in_err-map-clause-reading g c =
    let f = c.in_err-map.field-0.0 in
    let p = err_from_is_err_and c.from_residual.result c.from_residual.ensures.1 in
    rw (p.1, p.2) (λ text opened.
    rows_fault c.args.reader.now text opened (bytes_to_come_for_content c.read_remaining_rows.new.reader.ahead) f (f.kind ≢ Memory) c.in_err-map.ensures.fault)

pub returns-in-Ok-clause-reading : goal.returns-in-Ok-clause-reading
returns-in-Ok-clause-reading g c =
    let m = c.in_ok-map.map in
    let is = c.in_ok-map.ensures.rows in
    λ text opened. whole_read c.args.reader.now text opened c.read_remaining_rows.new.reader m is
    (bytes_to_come_for_content c.end.new.self.ahead) (c.in-Ok.ensures.end.reported is.live)

pub returns-in-Err-clause-reading : goal.returns-in-Err-clause-reading
returns-in-Err-clause-reading g c =
    let is = c.in_ok-map.ensures.rows in
    let f = c.in-Err.fault in
    let after = bytes_to_come_for_content c.end.new.self.ahead in
    λ text opened. implied (λ x. map_denoted_by_text x ≡ Err f) (λ x. f.kind ≢ Memory → map_denoted_by_text x ≡ Err f) text after (λ x e other. e)
    (end_fails c.args.reader.now text opened c.read_remaining_rows.new.reader c.in_ok-map.map is after f
    (c.in-Err.ensures.end.reported is.live))
