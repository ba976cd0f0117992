use Rattle.std.proofs.Common.{◌++◌}
use Rattle.rcell_pipe_frames.specs.FrameBytes.{response_magic}
use Rattle.rcell_pipe_response.specs.RunEnds.{end_frame_of_successful_run, end_frame_as_value}
use Rattle.rcell_pipe_join.specs.JoinFrames.{patch_sums_bytes}
use Rattle.rcell_pipe_join.proofs.EndLemmas.{finished_frame}
use Rattle.rcell_pipe_join.proofs.join_response.write_patch_sums_response.Goals as goal

pub returns : goal.returns
returns g c =
    let sums = c.args.sums.now in
    let frame = patch_sums_bytes c.args.width sums.numbers.items sums.entries.items in
    let appended = (rw c.as_slice-2.ensures.value at (rw c.as_slice.ensures.value at
    c.push_patch_sums.ensures)).adds _ _ response_magic c.begin_response-block.ensures in
    finished_frame frame (end_frame_as_value c.end_frame_of_successful_run.result) end_frame_of_successful_run
    c.end_frame_of_successful_run.ensures
    (c.end_response_and_flush.ensures _ _ (response_magic ++ frame) appended)
