use Rattle.cell_core_devices.proofs.BlockLemmas.{appends_then}
use Rattle.rcell_pipe_frames.proofs.map_frame.push_grid_frame_head.Goals as goal

pub returns : goal.returns
returns g c = appends_then (appends_then (appends_then c.push.ensures c.push_eight_byte_number.ensures)
    c.push_length_and_text.ensures) c.push_length_and_text-2.ensures
