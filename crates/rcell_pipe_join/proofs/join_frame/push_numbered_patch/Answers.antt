use Rattle.cell_core_devices.proofs.BlockLemmas.{appends_then}
use Rattle.rcell_pipe_join.proofs.join_frame.push_numbered_patch.Goals as goal

pub returns : goal.returns
returns g c = appends_then c.push_eight_byte_number.ensures c.push_patch_measures.ensures
