use Rattle.std.proofs.Common.{refl}
use Rattle.rcell_pipe_response.specs.declared.end.PipeError.TheVariants as errors
use Rattle.rcell_pipe_response.specs.RunEnds.{end_frame_as_value}
use Rattle.rcell_pipe_response.proofs.frame_run.reject_script.Goals as goal

pub returns-in-Ok : goal.returns-in-Ok
returns-in-Ok g c = record { error = errors.Script c.args.error; end = end_frame_as_value c.end_frame_of_rejected_script.result; rejects = (refl, c.end_frame_of_rejected_script.ensures); finished = c.reject.ensures }

pub returns-in-Err : goal.returns-in-Err
returns-in-Err g c = record { error = errors.Memory; end = end_frame_as_value c.memory_end.result; rejects = c.memory_end.ensures; finished = c.reject-in-Err.ensures }
