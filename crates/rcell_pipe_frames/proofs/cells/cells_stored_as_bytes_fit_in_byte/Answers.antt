use Rattle.std.proofs.Common.{sym}
use Rattle.rcell_pipe_frames.proofs.SmallLemmas.{all_small}
use Rattle.rcell_pipe_frames.proofs.cells.cells_stored_as_bytes_fit_in_byte.Goals as goal

pub returns : goal.returns
returns c = sym (all_small c.args.bytes.now c.type_inv.bytes)
