use Rattle.cell_core_devices.proofs.BlockLemmas.{appends_then}
use Rattle.rcell_pipe_response.proofs.end.push_end_frame.Goals as goal

pub returns : goal.returns
returns g c =
    appends_then c.push.ensures (appends_then c.push_eight_byte_number.ensures (appends_then c.push_eight_byte_number-2.ensures (appends_then c.push_eight_byte_number-3.ensures
    (appends_then c.push_eight_byte_number-4.ensures (appends_then c.push_eight_byte_number-5.ensures
    c.push_length_and_text.ensures)))))
