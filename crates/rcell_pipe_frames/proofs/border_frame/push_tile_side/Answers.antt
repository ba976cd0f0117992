use Rattle.cell_core_devices.proofs.BlockLemmas.{appends_then}
use Rattle.rcell_pipe_frames.proofs.border_frame.push_tile_side.Goals as goal

pub returns : goal.returns
returns g c = appends_then (rw c.deref.ensures.value at c.push_cells_in_four_bytes.ensures)
    (rw c.deref-2.ensures.value at c.push_cells_in_four_bytes-2.ensures)
