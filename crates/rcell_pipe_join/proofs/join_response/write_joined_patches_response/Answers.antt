use Rattle.std.proofs.Common.{◌++◌}
use Rattle.rcell_pipe_frames.specs.FrameBytes.{response_magic}
use Rattle.rcell_pipe_response.specs.RunEnds.{end_frame_of_successful_run, end_frame_as_value}
use Rattle.rcell_pipe_join.specs.JoinFrames.{joined_patches_bytes}
use Rattle.rcell_pipe_join.proofs.EndLemmas.{finished_frame}
use Rattle.rcell_pipe_join.proofs.join_response.write_joined_patches_response.Goals as goal

pub returns : goal.returns
returns g c =
    let frame = joined_patches_bytes c.args.patches.now.entries in
    let appended = c.push_joined_patches.ensures.adds _ _ response_magic c.begin_response-block.ensures in
    finished_frame frame (end_frame_as_value c.end_frame_of_successful_run.result) end_frame_of_successful_run
    c.end_frame_of_successful_run.ensures
    (c.end_response_and_flush.ensures _ _ (response_magic ++ frame) appended)
