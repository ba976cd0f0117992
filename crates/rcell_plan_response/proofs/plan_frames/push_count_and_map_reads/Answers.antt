use Rattle.cell_core_devices.proofs.BlockLemmas.{appends_then}
use Rattle.rcell_plan_response.proofs.plan_frames.push_count_and_map_reads.Goals as goal

pub returns : goal.returns
returns g c = appends_then c.push_eight_byte_number.ensures c.push_each_map_read.ensures
