use Rattle.cell_core_devices.proofs.BlockLemmas.{appends_then}
use Rattle.cell_ascii_writer.proofs.writer.write_grid.Goals as goal

pub returns : goal.returns
returns g c = appends_then (appends_then (rw c.region.ensures.value at c.write_header_lines_of_region.ensures) c.write_header_line_of_null_text.ensures) c.write_lines_of_all_rows.ensures
