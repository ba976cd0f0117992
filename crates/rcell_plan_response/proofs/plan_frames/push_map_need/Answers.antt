use Rattle.cell_core_devices.proofs.BlockLemmas.{appends_then}
use Rattle.rcell_plan_response.proofs.plan_frames.push_map_need.Goals as goal

pub returns : goal.returns
returns g c = appends_then c.push_map_read.ensures (rw c.one_if_true_else_zero.ensures.value at c.push.ensures)
