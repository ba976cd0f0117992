use Rattle.cell_core_devices.proofs.BlockLemmas.{appends_then}
use Rattle.rcell_pipe_join.proofs.join_frame.push_patch_sums.Goals as goal

pub returns : goal.returns
returns g c =
    appends_then c.push.ensures (appends_then c.push_eight_byte_number.ensures
    (appends_then c.push_eight_byte_number-2.ensures
    (appends_then (appends_then c.push_numbers.ensures c.push_counts.ensures) c.push_combinations.ensures)))
