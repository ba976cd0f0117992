use Rattle.cell_core_devices.proofs.BlockLemmas.{appends_then}
use Rattle.rcell_pipe_frames.proofs.patches_frame.push_patch_with_zone.Goals as goal

pub returns : goal.returns
returns g c = appends_then c.push_patch_measures.ensures c.push_zone_of_patch.ensures
