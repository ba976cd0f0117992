use Rattle.std.proofs.lemmas.Result.{err_from_is_err_and}
use Rattle.std.proofs.Common.{◌≡◌, ◌+◌, ◌-◌, ◌≤◌, ◌∙◌, Err, ap, arith, length, take, drop, ◌++◌, length-drop, length-take, take_all}
use Rattle.cell_ascii_reading.specs.Ahead.{bytes_to_come_for_content}
use Rattle.cell_ascii_meaning.specs.CellTexts.{next_cell_after_position, items_read_one_after_another}
use Rattle.cell_ascii.specs.GridReaders.{IsRowInterruptedByFault}
use Rattle.cell_ascii.specs.Reader.{position_of_cell_reader}
use Rattle.cell_ascii.proofs.BufferedRowLemmas.{part-front}
use Rattle.cell_ascii.proofs.ManyLemmas.{row_some}
use Rattle.cell_ascii_reading.proofs.LeadLemmas.{implied}
use Rattle.cell_ascii.proofs.RowReadLemmas.{cut_fails, others_fail}
use Rattle.cell_ascii.proofs.grid_reader.read_row_as_bytes_or_cells.Goals as goal

pub returns-in_err-read_row-clause-fault : goal.returns-in_err-read_row-clause-fault
returns-in_err-read_row-clause-fault g c =
    let s = c.args.cells.now in
    let u = c.read_row_front_as_bytes_if_useful.new.cells in
    let row = c.read_row_front_as_bytes_if_useful.new.row in
    let i = c.in_ok-count.count in
    let h = s.header in
    let rest = take (length row - i) (drop i row) in
    let f = c.in_err-read_row.field-0.0 in
    let is = c.in_ok-count.ensures in
    let cells = rw c.if-is_bytes.false at is.cells in
    let p = err_from_is_err_and c.from_residual-in_err-read_row.result c.from_residual-in_err-read_row.ensures.1 in
    let cut = implied (λ x. IsRowInterruptedByFault u.header (position_of_cell_reader u x) f rest c.read_row.new.row) (λ x. items_read_one_after_another (next_cell_after_position u.header) (length rest) (position_of_cell_reader u x) ≡ Err f) (bytes_to_come_for_content u.ahead) (bytes_to_come_for_content c.read_row.new.cells.ahead)
    (λ x. cut_fails u.header (position_of_cell_reader u x) f rest c.read_row.new.row) c.in_err-read_row.ensures.cut in
    let all : i + length rest ≡ length c.args.row.now = omega (arith, length-take (length row - i) (drop i row), length-drop i row, is.front.count, c.read_row_front_as_bytes_if_useful.auto.row) in
    rw (p.1, p.2, ← all)
    (others_fail h (position_of_cell_reader s) (position_of_cell_reader u) (bytes_to_come_for_content s.ahead) (bytes_to_come_for_content u.ahead) (bytes_to_come_for_content c.read_row.new.cells.ahead) i (length rest) f (take i row) cells (rw is.header at cut))

pub returns-clause-row : goal.returns-clause-row
returns-clause-row g c =
    let s = c.args.cells.now in
    let u = c.read_row_front_as_bytes_if_useful.new.cells in
    let v = c.read_row.new.cells in
    let row = c.read_row_front_as_bytes_if_useful.new.row in
    let part = c.read_row.new.row in
    let i = c.in_ok-count.count in
    let h = s.header in
    let rest = take (length row - i) (drop i row) in
    let is = c.in_ok-count.ensures in
    let cells = rw c.if-is_bytes.false at is.cells in
    let within : i ≤ length row = omega (arith, is.front.count, c.read_row_front_as_bytes_if_useful.auto.row) in
    let size : length part ≡ length row - i = omega (arith, c.read_row.auto.row, length-take (length row - i) (drop i row), length-drop i row) in
    let few : length part ≤ length row - i = omega (arith, size) in
    let n : length rest ≡ length part = omega (arith, c.read_row.auto.row) in
    let all : i + length part ≡ length c.args.row.now = omega
    (arith, size, within, c.read_row_front_as_bytes_if_useful.auto.row) in
    let front = part-front i (length part) row part row within size few ∙ ap (λ l. take i row ++ l) (take_all (length part) part (omega arith)) in
    let more = row_some (next_cell_after_position h) (position_of_cell_reader s) (position_of_cell_reader u) (position_of_cell_reader v) (bytes_to_come_for_content s.ahead) (bytes_to_come_for_content u.ahead) (bytes_to_come_for_content v.ahead)
    i (length part) (take i row) part cells (rw (is.header, n) at c.in_ok-read_row.ensures.row) in
    rw (← all, front) more
