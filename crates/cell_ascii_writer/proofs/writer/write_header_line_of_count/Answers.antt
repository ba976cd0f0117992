use Rattle.cell_ascii_writer.proofs.writer.write_header_line_of_count.Goals as goal

pub returns : goal.returns
returns g c = rw (← c.format.ensures.text, ← c.as_bytes.ensures.value) c.write_header_line.ensures
