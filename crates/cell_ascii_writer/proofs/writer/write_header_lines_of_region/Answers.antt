use Rattle.std.proofs.Common.{◌∙◌, w64}
use Rattle.std.proofs.lemmas.Int.{to_z-of_z}
use Rattle.cell_core_devices.proofs.BlockLemmas.{appends_then}
use Rattle.cell_ascii_writer.proofs.writer.write_header_lines_of_region.Goals as goal

pub returns : goal.returns
returns g c =
    let north_is = to_z-of_z w64 c.north.result (record { sfits = c.north.type_inv }) ∙ c.north.ensures.value in
    let south_is = to_z-of_z w64 c.south.result (record { sfits = c.south.type_inv }) ∙ c.south.ensures.value in
    let east_is = to_z-of_z w64 c.east.result (record { sfits = c.east.type_inv }) ∙ c.east.ensures.value in
    let west_is = to_z-of_z w64 c.west.result (record { sfits = c.west.type_inv }) ∙ c.west.ensures.value in
    let edges = appends_then (appends_then (appends_then (rw north_is at c.write_header_line_of_edge.ensures) (rw south_is at c.write_header_line_of_edge-2.ensures)) (rw east_is at c.write_header_line_of_edge-3.ensures)) (rw west_is at c.write_header_line_of_edge-4.ensures) in
    appends_then (appends_then edges (rw c.rows.ensures.value at c.write_header_line_of_count.ensures)) (rw c.cols.ensures.value at c.write_header_line_of_count-2.ensures)
