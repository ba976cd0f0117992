use Rattle.std.proofs.Common.{[]}
use Rattle.rcell_pipe_response.proofs.frame_run.begin_response.Goals as goal

pub returns : goal.returns
returns g c = c.push.ensures.adds _ _ [] (c.new-block.ensures.nothing _ _)
