use Rattle.cell_core_devices.proofs.BlockLemmas.{appends_then}
use Rattle.rcell_plan_response.proofs.plan_frames.push_plan.Goals as goal

pub returns : goal.returns
returns g c =
    appends_then (appends_then (appends_then
    (appends_then c.push_plan_head.ensures (rw c.in_order.ensures at c.push_count_and_map_reads.ensures))
    (rw c.in_order-2.ensures at c.push_count_and_map_needs.ensures)) c.push_command_options.ensures)
    c.push_command_labels.ensures
