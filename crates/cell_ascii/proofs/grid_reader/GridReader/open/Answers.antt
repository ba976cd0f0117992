use Rattle.std.proofs.lemmas.Result.{err_from_is_err_and}
use Rattle.std.proofs.Common.{◌≡◌, ◌≢◌, ap, Some, Err}
use Rattle.cell_core_devices.specs.Asking.{SourceKnowledge}
use Rattle.cell_ascii_reading.specs.Ahead.{bytes_to_come_for_content}
use Rattle.cell_ascii_meaning.specs.Header.{header_of_text}
use Rattle.cell_ascii_meaning.specs.FaultPlaces.{first_fault_up_to_first_data_token}
use Rattle.cell_ascii.specs.Reader.{position_of_cell_reader}
use Rattle.cell_ascii_law_faults.proofs.GridFaultLemmas.{opening_agrees}
use Rattle.cell_core_devices.specs.Supposed.{content_to_come}
use Rattle.cell_ascii_meaning.specs.declared.grid_fault.GridKind.TheVariants.{Memory}
use Rattle.cell_ascii_reading.proofs.LeadLemmas.{implied}
use Rattle.cell_ascii.proofs.RowReadLemmas.{opening_placed, lines_fit}
use Rattle.cell_ascii.proofs.grid_reader.GridReader.open.Goals as goal

pub returns-in_err-cells-clause-fault : goal.returns-in_err-cells-clause-fault
returns-in_err-cells-clause-fault g c =
    let f = c.in_err-cells.field-0.0.fault in
    let p = err_from_is_err_and c.from_residual.result c.from_residual.ensures.1 in
    let u = c.in_err-cells.field-0.0 in
    rw (p.1, p.2)
    (implied (λ x. f.kind ≢ Memory → header_of_text x ≡ Err f) (λ x. f.kind ≢ Memory
    → first_fault_up_to_first_data_token x ≡ Some f)
    (content_to_come (g.R.Source.supposed c.args.source)) (content_to_come (g.R.Source.supposed u.source)) (λ x e other. (opening_agrees x f).0 (e other))
    c.in_err-cells.ensures.fault)

pub invariant_of-result : goal.invariant_of-result
invariant_of-result g c =
    let p = c.in_ok-cells.cells in
    let is = rw c.region.ensures at c.rows-rows_left.ensures.region in
    rw (c.rows-rows_left.ensures.value, c.region.ensures)
    (record {
      wide = is.cols_least;
      lines = λ _. lines_fit p.line p.header.region.rows p.header.region.cols c.in_ok-cells.ensures.opened.line is.rows_most is.cols_most;
      placed = λ _. opening_placed p.header (position_of_cell_reader p) p.header.region.rows (content_to_come (g.R.Source.supposed c.args.source)) (bytes_to_come_for_content p.ahead) is.rows_least c.in_ok-cells.ensures.opened.reading;
      heard = λ _. ap (λ (h : SourceKnowledge). h.failed) c.in_ok-cells.ensures.opened.heard;
    })
