use Rattle.rcell_pipe_frames.specs.FrameBytes.{response_magic}
use Rattle.rcell_pipe_response.proofs.frame_run.reject.Goals as goal

pub returns : goal.returns
returns g c = c.end_response_and_flush.ensures _ _ response_magic c.begin_response-block.ensures
