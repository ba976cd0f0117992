-- Sources that are read in blocks: the bytes returned so far, the bytes that may still come, and the read state.
use Rattle.std.specs.Prelude.{ℕ, ◌≡◌, Bool, true, List, ◌++◌, length, Result, Ok, Err}
use Rattle.cell_core_devices.specs.Device.{ComingBytes, bytes_to_come_after_reading}
use Rattle.cell_core_devices.specs.declared.source.Asked.{Asked}
use Rattle.cell_core_devices.specs.declared.source.Asked.TheVariants.{Going, Ended, Failed}
use Rattle.rcell_pipe_request.specs.declared.error.ErrorKind.{ErrorKind}
use Rattle.rcell_pipe_request.specs.declared.error.ErrorKind.TheVariants as kinds
use Rattle.rcell_pipe_request.specs.declared.error.FieldReadingStop.{FieldReadingStop}
use Rattle.rcell_pipe_request.specs.declared.error.FieldReadingStop.TheVariants as field_stops
use Rattle.rcell_pipe_request.specs.declared.error.RequestStop.{RequestStop}
use Rattle.rcell_pipe_request.specs.declared.error.RequestStop.TheVariants as request_stops
use Rattle.rcell_pipe_request.specs.RequestFields.{RequestFieldReading}
use Rattle.rcell_pipe_request.specs.Supposed.{source_may_hold}
use Rattle.rcell_pipe_request.specs.declared.error.RequestError.{RequestError}

-- the bytes of the block that are not yet read, all bytes that the source has returned, and its read state
pub record RequestReaderValue : Type 0 where
  pub unread : List ℕ
  pub gave : List ℕ
  pub asked : Asked

-- the source may hold `c`
abbrev pub request_reader_may_hold_bytes : ComingBytes → RequestReaderValue → Bool
request_reader_may_hold_bytes c f = source_may_hold f.gave f.asked c

-- the given bytes, followed by what is still to come
abbrev pub after : List ℕ → ComingBytes → ComingBytes
after bytes c = record { bytes = bytes ++ c.bytes; fails = c.fails }

-- what is still to come if the source holds `c`: first the unread bytes of the block
abbrev pub left : ComingBytes → RequestReaderValue → ComingBytes
left c f = after f.unread (bytes_to_come_after_reading c (length f.gave))

-- the read state of a source after an error: `Short` means that it ended, `ReadFailed` that it failed
abbrev pub read_state_after_error : ErrorKind → Asked
read_state_after_error kinds.Short = Ended
read_state_after_error kinds.ReadFailed = Failed
read_state_after_error kind = Going

abbrev pub read_state_after_field_stop : FieldReadingStop → Asked
read_state_after_field_stop field_stops.Memory = Going
read_state_after_field_stop (field_stops.Error kind) = read_state_after_error kind

abbrev pub read_state_after_request_stop : RequestStop → Asked
read_state_after_request_stop request_stops.Memory = Going
read_state_after_request_stop (request_stops.Error error) = read_state_after_error error.kind

-- a source that was still open has the read state `asked` afterwards
abbrev pub OpenSourceReachesState : Asked → RequestReaderValue → RequestReaderValue → Type 0
OpenSourceReachesState asked old new = old.asked ≡ Going → new.asked ≡ asked

-- the read state after a request for the next block
abbrev pub IsReadStateAfterNextBlock : Result Unit ErrorKind → RequestReaderValue → RequestReaderValue → Type 0
IsReadStateAfterNextBlock (Ok done) old new = OpenSourceReachesState Going old new
IsReadStateAfterNextBlock (Err kind) old new = OpenSourceReachesState (read_state_after_error kind) old new

-- for any content of the source: applied to the bytes still to come before the call, the reading returns `y` and leaves
-- the bytes still to come after it
abbrev pub ReadingReturnsForAnyContent : {Y E : Type 0} → RequestReaderValue → Y → RequestReaderValue
    → (ComingBytes → Result (Y × ComingBytes) E) → Type 0
ReadingReturnsForAnyContent old y new reading =
    (c : ComingBytes) → request_reader_may_hold_bytes c new ≡ true → (request_reader_may_hold_bytes c old ≡ true)
    × (reading (left c old) ≡ Ok (y, left c new))

-- for any content of the source: the reading fails with this error
abbrev pub ReadingFailsForAnyContent : {Y E : Type 0} → RequestReaderValue → E → RequestReaderValue
    → (ComingBytes → Result (Y × ComingBytes) E) → Type 0
ReadingFailsForAnyContent old error new reading =
    (c : ComingBytes) → request_reader_may_hold_bytes c new ≡ true → (request_reader_may_hold_bytes c old ≡ true)
    × (reading (left c old) ≡ Err error)

-- any content that the source may hold after the calls, it could hold before
abbrev pub LaterContentWasPossibleBefore : RequestReaderValue → RequestReaderValue → Type 0
LaterContentWasPossibleBefore old new = (c : ComingBytes) → request_reader_may_hold_bytes c new ≡ true
    → request_reader_may_hold_bytes c old ≡ true

-- an error is the reading's error; memory may run out at any time
abbrev pub RequestFieldReadingFails : {Y : Type 0} → FieldReadingStop → RequestReaderValue → RequestReaderValue
    → (ComingBytes → RequestFieldReading Y) → Type 0
RequestFieldReadingFails field_stops.Memory old new reading = LaterContentWasPossibleBefore old new
RequestFieldReadingFails (field_stops.Error kind) old new reading = ReadingFailsForAnyContent old kind new reading

-- the result, seen through `view`, is what the reading returns, and the reading leaves what is still to come; the read
-- state is `asked`, or end or failure if this is the error
abbrev pub ReadsRequestFieldToReadState : Asked → {X Y : Type 0} → (X → Y) → RequestReaderValue
    → Result X FieldReadingStop
    → RequestReaderValue →
    (ComingBytes → RequestFieldReading Y) → Type 0
ReadsRequestFieldToReadState asked view old (Ok x) new reading = ReadingReturnsForAnyContent old (view x) new reading
    × OpenSourceReachesState asked old new
ReadsRequestFieldToReadState asked view old (Err stop) new reading = RequestFieldReadingFails stop old new reading
    × OpenSourceReachesState (read_state_after_field_stop stop) old
    new

-- reads a field, after which the source is still open
abbrev pub ReadsRequestFieldAndStaysOpen : {X Y : Type 0} → (X → Y) → RequestReaderValue → Result X FieldReadingStop → RequestReaderValue → (ComingBytes → RequestFieldReading Y) → Type 0
ReadsRequestFieldAndStaysOpen view old result new reading = ReadsRequestFieldToReadState Going view old result new
    reading

abbrev pub ReadsRequestFieldToSourceEnd : {X Y : Type 0} → (X → Y) → RequestReaderValue → Result X FieldReadingStop
    → RequestReaderValue →
    (ComingBytes → RequestFieldReading Y) → Type 0
ReadsRequestFieldToSourceEnd view old result new reading = ReadsRequestFieldToReadState Ended view old result new
    reading

-- `RequestFieldReadingFails` for errors with positions
abbrev pub FailsWithErrorPosition : {Y : Type 0} → RequestStop → RequestReaderValue → RequestReaderValue → (ComingBytes → Result (Y × ComingBytes) RequestError)
    → Type 0
FailsWithErrorPosition request_stops.Memory old new reading = LaterContentWasPossibleBefore old new
FailsWithErrorPosition (request_stops.Error error) old new reading = ReadingFailsForAnyContent old error new reading

abbrev pub ReadsToStateWithErrorPosition : Asked → {X Y : Type 0} → (X → Y) → RequestReaderValue
    → Result X RequestStop → RequestReaderValue →
    (ComingBytes → Result (Y × ComingBytes) RequestError) → Type 0
ReadsToStateWithErrorPosition asked view old (Ok x) new reading = ReadingReturnsForAnyContent old (view x) new reading
    × OpenSourceReachesState asked old new
ReadsToStateWithErrorPosition asked view old (Err stop) new reading = FailsWithErrorPosition stop old new reading
    × OpenSourceReachesState
    (read_state_after_request_stop stop) old new

abbrev pub ReadsWithErrorPosition : {X Y : Type 0} → (X → Y) → RequestReaderValue → Result X RequestStop → RequestReaderValue → (ComingBytes → Result (Y × ComingBytes) RequestError) → Type 0
ReadsWithErrorPosition view old result new reading = ReadsToStateWithErrorPosition Going view old result new reading

abbrev pub ReadsToEndWithErrorPosition : {X Y : Type 0} → (X → Y) → RequestReaderValue → Result X RequestStop
    → RequestReaderValue →
    (ComingBytes → Result (Y × ComingBytes) RequestError) → Type 0
ReadsToEndWithErrorPosition view old result new reading = ReadsToStateWithErrorPosition Ended view old result new
    reading
