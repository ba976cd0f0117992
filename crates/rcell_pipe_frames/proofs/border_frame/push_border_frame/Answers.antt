use Rattle.cell_core_devices.proofs.BlockLemmas.{appends_then}
use Rattle.rcell_pipe_frames.proofs.border_frame.push_border_frame.Goals as goal

pub returns : goal.returns
returns g c =
    appends_then c.push.ensures (appends_then c.push_eight_byte_number.ensures
    (appends_then c.push_joining_code.ensures (appends_then c.push_tile_position.ensures
    (appends_then c.push_size_in_four_bytes.ensures c.push_border_fields.ensures))))
