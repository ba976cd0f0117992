use Rattle.std.proofs.Common.{◌≡◌, to_z, of_z, w64}
use Rattle.std.proofs.lemmas.Int.{to_z-of_z}
use Rattle.cell_core_devices.proofs.BlockLemmas.{appends_then}
use Rattle.cell_ascii_writer.proofs.writer.write_header_line_of_edge.Goals as goal

pub returns : goal.returns
returns g c =
    let same : to_z w64 (of_z w64 c.args.edge) ≡ c.args.edge = to_z-of_z w64 c.args.edge c.ranges.edge in
    appends_then (appends_then c.write_header_key.ensures (rw same at c.write_coordinate.ensures)) c.push.ensures
