use Rattle.std.proofs.Common.{◌≡◌, take, refl}
use Rattle.cell_ascii.proofs.WordLemmas.{lines_buffered}
use Rattle.cell_ascii.proofs.grid_reader.CellReader.read_buffered_cells_into_row.Goals as goal

pub returns-then-count-gt0-clause-cells : goal.returns-then-count-gt0-clause-cells
returns-then-count-gt0-clause-cells g c =
    let s = c.self.inside.scanner in
    let r = c.cells_in-count.result in
    let none : s.run ≡ 0 = c.if-not-is_right_after_word.ensures refl in
    rw (← c.self.view_is, c.count_lines.ensures, c.pass.ensures, c.if-self.false, none)
    (lines_buffered c.self.inside.words s.line r.2 s.ahead.buffered s.ahead.rest (take r.0 c.cells_in-count.new.row) r.0 r.1
    (rw c.buffered_bytes.ensures at c.cells_in-count.ensures.cells.cells))
