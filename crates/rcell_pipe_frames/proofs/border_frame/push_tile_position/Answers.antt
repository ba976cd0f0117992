use Rattle.cell_core_devices.proofs.BlockLemmas.{appends_then}
use Rattle.rcell_pipe_frames.proofs.border_frame.push_tile_position.Goals as goal

pub returns : goal.returns
returns g c = appends_then c.push_eight_byte_number.ensures c.push_eight_byte_number-2.ensures
