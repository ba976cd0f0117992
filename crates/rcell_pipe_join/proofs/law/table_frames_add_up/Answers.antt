use Rattle.rcell_pipe_frames.proofs.TileFrameLemmas.{tile-frames-join}
use Rattle.rcell_pipe_join.proofs.FrameSumLemmas.{frames-add-up}
use Rattle.rcell_pipe_join.proofs.law.table_frames_add_up.Goals as goal

pub returns : goal.returns
returns c = frames-add-up tile-frames-join
