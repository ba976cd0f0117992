use Rattle.std.proofs.Common.{◌≡◌, take, refl}
use Rattle.cell_core_values.specs.SmallCells.{cells_of_bytes}
use Rattle.cell_ascii_reading.specs.InRange.{DigitWordsDenoteTheirNumber}
use Rattle.cell_ascii.proofs.WordLemmas.{lines_buffered}
use Rattle.cell_ascii.proofs.grid_reader.CellReader.buffered_bytes.Goals as goal

pub returns-then-count-gt0-clause-cells : goal.returns-then-count-gt0-clause-cells
returns-then-count-gt0-clause-cells g c =
    let s = c.self.inside.scanner in
    let h = c.self.inside.words in
    let r = c.short_words_in-count.result in
    let none : s.run ≡ 0 = c.if-not-is_right_after_word.ensures refl in
    let plain : DigitWordsDenoteTheirNumber h = rw (← c.self.view_is) at c.requires.plain in
    rw (← c.self.view_is, c.count_lines.ensures, c.pass.ensures, c.if-self.false, none)
    (lines_buffered h s.line r.2 s.ahead.buffered s.ahead.rest (cells_of_bytes (take r.0 c.short_words_in-count.new.row)) r.0 r.1
    (rw (c.buffered_bytes.ensures, c.header.ensures) at c.short_words_in-count.ensures.cells))
