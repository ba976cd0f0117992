use Rattle.cell_core_devices.proofs.BlockLemmas.{appends_then}
use Rattle.rcell_plan_response.proofs.plan_frames.push_plan_head.Goals as goal

pub returns : goal.returns
returns g c =
    appends_then c.push.ensures
    (appends_then c.push_eight_byte_number.ensures
    (appends_then c.push-2.ensures (rw c.name_of_made_map.ensures at c.push_length_and_text.ensures)))
