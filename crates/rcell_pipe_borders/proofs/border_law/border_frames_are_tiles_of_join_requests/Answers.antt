use Rattle.rcell_pipe_borders.proofs.BorderFrameLemmas.{tiles-read}
use Rattle.rcell_pipe_borders.proofs.border_law.border_frames_are_tiles_of_join_requests.Goals as goal

pub returns : goal.returns
returns c = tiles-read
