use Rattle.std.proofs.Common.{◌≡◌, ◌∙◌, None, sym}
use Rattle.cell_core.specs.Grid.{CellValue}
use Rattle.cell_ascii_writer.proofs.RunWritingLemmas.{times_cells}
use Rattle.cell_ascii_writer.proofs.cells_in_line.put_null_or_long_cell_repeatedly.Goals as goal

pub returns-in-None-clause-text : goal.returns-in-None-clause-text
returns-in-None-clause-text c =
    let is : c.args.cell ≡ None = sym c.get.ensures.value ∙ c.in-None.is in
    rw (is, ← times_cells c.args.fields.now c.args.count None, ← c.field_of_byte_cell.ensures.bytes)
    c.put_field_repeatedly.ensures.text
