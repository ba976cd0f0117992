-- What a response implies about a feed and its source.
use Rattle.std.specs.Prelude.{ℕ, ◌≡◌, true, List, Option}
use Rattle.cell_core_devices.specs.Device.{ComingBytes}
use Rattle.cell_core_devices.specs.declared.source.Asked.{Asked}
use Rattle.rcell_pipe_request.specs.Feeds.{RequestReaderValue, request_reader_may_hold_bytes, left}
use Rattle.rcell_pipe_response.specs.declared.end.PipeError.{PipeError}
use Rattle.rcell_pipe_response.specs.RunEnds.{IsResponseOfOnlyEnd}
use Rattle.rcell_plan_response.specs.Responses.{IsResponseToReturnedBytes}

-- a response that reports a rejection is only its last frame; and for any content that the source may hold, the
-- response is as `says` states for the bytes that were still to come
abbrev pub IsResponseToFeed : RequestReaderValue → RequestReaderValue → (ComingBytes → List ℕ → Option PipeError
    → Type 0) → List ℕ → Option PipeError
    → Type 0
IsResponseToFeed old new says response error =
    IsResponseOfOnlyEnd response error
    × ((c : ComingBytes) → request_reader_may_hold_bytes c new ≡ true → (request_reader_may_hold_bytes c old ≡ true)
    × says (left c old) response error)

-- `IsResponseToFeed` for the bytes that a source has returned
abbrev pub IsResponseToSource : (before gave : List ℕ) → Asked → List ℕ → Option PipeError → Type 0
IsResponseToSource before gave asked response error =
    IsResponseOfOnlyEnd response error × IsResponseToReturnedBytes before gave asked response error
