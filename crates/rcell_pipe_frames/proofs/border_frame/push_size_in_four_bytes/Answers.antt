use Rattle.cell_core_devices.proofs.BlockLemmas.{appends_then}
use Rattle.rcell_pipe_frames.proofs.border_frame.push_size_in_four_bytes.Goals as goal

pub returns : goal.returns
returns g c = appends_then (rw c.rows.ensures.value at c.push_four_byte_number.ensures)
    (rw c.cols.ensures.value at c.push_four_byte_number-2.ensures)
