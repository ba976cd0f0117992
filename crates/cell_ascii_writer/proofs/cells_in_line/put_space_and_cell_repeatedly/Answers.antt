use Rattle.std.proofs.Common.{◌≡◌}
use Rattle.cell_ascii_writer.proofs.RunWritingLemmas.{times_cells}
use Rattle.cell_ascii_writer.proofs.WriterLemmas.{at_end}
use Rattle.cell_ascii_writer.proofs.cells_in_line.put_space_and_cell_repeatedly.Goals as goal

pub returns-clause-text : goal.returns-clause-text
returns-clause-text c =
    let all : c.loop.counter ≡ c.args.count = at_end _ _ c.loop-test.false c.loop.auto.counter-end in
    rw (← times_cells c.args.fields.now c.args.count c.args.cell) (rw all at c.loop.invariant.text)
