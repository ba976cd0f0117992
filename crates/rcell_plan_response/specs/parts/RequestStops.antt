-- How a request that could not be read is rejected.
use Rattle.rcell_pipe_request.specs.declared.error.RequestStop.{RequestStop}
use Rattle.rcell_pipe_request.specs.declared.error.RequestStop.TheVariants.{Memory, Error}
use Rattle.rcell_pipe_response.specs.declared.end.PipeError.{PipeError}
use Rattle.rcell_pipe_response.specs.declared.end.PipeError.TheVariants as errors
use Rattle.rcell_pipe_frames.specs.FrameBytes.{RunEndValue}
use Rattle.rcell_pipe_response.specs.RunEnds.{request_end, memory_end}

-- the error for a stop, and the last frame
abbrev pub pipe_error_of_request_stop : RequestStop → PipeError
pipe_error_of_request_stop Memory = errors.Memory
pipe_error_of_request_stop (Error error) = errors.Request error

abbrev pub end_frame_of_request_stop : RequestStop → RunEndValue
end_frame_of_request_stop Memory = memory_end 0
end_frame_of_request_stop (Error error) = request_end error
