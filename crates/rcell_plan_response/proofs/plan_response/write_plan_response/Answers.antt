use Rattle.std.proofs.Common.{◌++◌}
use Rattle.rcell_pipe_frames.specs.FrameBytes.{response_magic}
use Rattle.rcell_pipe_response.specs.RunEnds.{end_frame_of_successful_run, end_frame_as_value}
use Rattle.rcell_plan_response.specs.PlanFrames.{plans_bytes}
use Rattle.rcell_plan_response.proofs.PlanEndLemmas.{finished_plans}
use Rattle.rcell_plan_response.proofs.plan_response.write_plan_response.Goals as goal

pub returns : goal.returns
returns g c =
    let frames = plans_bytes c.args.names.now c.args.plans.now c.args.statements.now in
    let appended = c.push_plans.ensures.adds _ _ response_magic c.begin_response-block.ensures in
    finished_plans frames (end_frame_as_value c.end_frame_of_successful_run.result) end_frame_of_successful_run
    c.end_frame_of_successful_run.ensures
    (c.end_response_and_flush.ensures _ _ (response_magic ++ frames) appended)
