use Rattle.cell_core_devices.proofs.BlockLemmas.{appends_then}
use Rattle.cell_ascii_writer.proofs.writer.write_header_line.Goals as goal

pub returns : goal.returns
returns g c = appends_then (appends_then c.write_header_key.ensures c.push.ensures) c.push-2.ensures
