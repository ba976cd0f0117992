use Rattle.cell_core_devices.proofs.BlockLemmas.{appends_then}
use Rattle.rcell_plan_response.proofs.plan_frames.push_map_read.Goals as goal

pub returns : goal.returns
returns g c = appends_then (rw c.name_of_map_at_place.ensures at c.push_length_and_text.ensures) c.push_margin.ensures
