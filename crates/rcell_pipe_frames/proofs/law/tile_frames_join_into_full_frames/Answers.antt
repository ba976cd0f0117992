use Rattle.rcell_pipe_frames.proofs.TileFrameLemmas.{tile-frames-join}
use Rattle.rcell_pipe_frames.proofs.law.tile_frames_join_into_full_frames.Goals as goal

pub returns : goal.returns
returns c = tile-frames-join
