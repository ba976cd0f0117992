-- What `rcell-pipe` does, in terms of the bytes that it reads, the bytes that its writes accept, and its exit status
-- (profile).
use Rattle.std.specs.Prelude.{ℕ, ◌≡◌, false, List, drop, length, Option, None}
use Rattle.cell_core_devices.specs.Device.{SinkFaults, faults_after_flush, append_if_known}
use Rattle.cell_core_devices.specs.declared.source.Asked.{Asked}
use Rattle.cell_core_devices.specs.declared.source.Asked.TheVariants.{Ended}
use Rattle.rcell_pipe_response.specs.declared.end.PipeError.{PipeError}
use Rattle.rcell_pipe_response.specs.RunEnds.{IsResponseWritten, AreSinkCallsForError, IsResponseOfOnlyEnd}
use Rattle.rcell_pipe_response.specs.RunEnds.{exit_status_of_pipe_run}
use Rattle.rcell_plan_response.specs.Responses.{request_form_reading, IsReadStateForError, IsResponseToRequestOfForm}
use Rattle.rcell_plan_response.specs.Responses.{IsResponseToReturnedBytes}

-- the bytes read since `before`
abbrev pub bytes_read_since : (before gave : List ℕ) → List ℕ
bytes_read_since before gave = drop (length before) gave

-- the request was accepted: the input has ended; the writes accepted exactly the response defined for the bytes read;
-- no write failed; and the output was flushed once, after the last byte
pub record IsExchangeSuccessful (before gave : List ℕ) (asked : Asked) (taken : Option (List ℕ)) (start : SinkFaults)
    (now : Option (List ℕ)) (after : SinkFaults) : Type 0 where
  pub ended : asked ≡ Ended
  pub response : List ℕ
  pub defined : IsResponseToRequestOfForm (request_form_reading
      (record { bytes = bytes_read_since before gave; fails = false }))
      response None
  pub accepted : now ≡ append_if_known taken response
  pub flushed : after ≡ faults_after_flush start false

-- how an exchange ends: `error` is the run's error, `reported` the error that the response reports, and `written` the
-- number of response bytes accepted. The exit status follows from the error. The input was read to its end, or to the
-- first error in the request, or until memory ran out. The writes accepted the full response to the bytes read, or its
-- first bytes if a write failed; unread input does not affect it. The response to a rejected request is a single
-- final frame.
pub record IsEndOfExchange (before gave : List ℕ) (asked : Asked) (taken : Option (List ℕ)) (start : SinkFaults)
    (now : Option
    (List ℕ)) (after : SinkFaults) (status : ℕ) : Type 0 where
  pub error : Option PipeError
  pub reported : Option PipeError
  pub written : ℕ
  pub status_is : status ≡ exit_status_of_pipe_run error
  pub read : IsReadStateForError reported asked
  pub responded : IsResponseWritten (IsResponseToReturnedBytes before gave asked) taken now reported error written
  pub rejected : IsResponseWritten IsResponseOfOnlyEnd taken now reported error written
  pub used : AreSinkCallsForError error start after
