use Rattle.cell_core_devices.proofs.BlockLemmas.{appends_then}
use Rattle.rcell_pipe_frames.proofs.border_frame.push_border_fields.Goals as goal

pub push_counts_in_four_bytes-requires : goal.push_counts_in_four_bytes-requires
push_counts_in_four_bytes-requires g c = rw c.deref.ensures.value c.requires

pub returns : goal.returns
returns g c =
    appends_then c.push_tile_side.ensures (appends_then c.push_tile_side-2.ensures
    (appends_then c.push_tile_side-3.ensures (appends_then c.push_tile_side-4.ensures
    (rw c.deref.ensures.value at c.push_counts_in_four_bytes.ensures))))
