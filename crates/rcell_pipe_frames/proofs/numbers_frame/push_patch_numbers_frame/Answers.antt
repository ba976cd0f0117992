use Rattle.cell_core_devices.proofs.BlockLemmas.{appends_then}
use Rattle.rcell_pipe_frames.proofs.numbers_frame.push_patch_numbers_frame.Goals as goal

pub returns-clause-ok : goal.returns-clause-ok
returns-clause-ok g c =
    appends_then (appends_then (appends_then c.push.ensures c.push_eight_byte_number.ensures)
    (rw c.region.ensures.value at c.push_row_and_column_counts.ensures)) c.push_map_rows.ensures
