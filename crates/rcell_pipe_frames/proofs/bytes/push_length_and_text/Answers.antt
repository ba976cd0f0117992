use Rattle.cell_core_devices.proofs.BlockLemmas.{appends_then}
use Rattle.rcell_pipe_frames.proofs.bytes.push_length_and_text.Goals as goal

pub returns : goal.returns
returns g c = appends_then c.push_eight_byte_number.ensures c.push.ensures
