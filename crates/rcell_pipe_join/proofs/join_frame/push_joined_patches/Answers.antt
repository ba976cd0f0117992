use Rattle.cell_core_devices.proofs.BlockLemmas.{appends_then}
use Rattle.rcell_pipe_join.proofs.join_frame.push_joined_patches.Goals as goal

pub returns : goal.returns
returns g c =
    appends_then c.push.ensures (appends_then (rw c.len.ensures.len at c.push_eight_byte_number.ensures)
    c.push_numbered_patches.ensures)
