-- Loops whose steps read one item after another.
use Rattle.std.proofs.Common.{◌≡◌, ℕ, suc, ◌-◌, ◌+◌, ◌≤◌, ◌<◌, Bool, true, Result, Ok, Err, refl, sym, ◌∙◌, arith}
use Rattle.cell_core_devices.specs.Device.{ComingBytes}
use Rattle.cell_core_devices.specs.declared.source.Asked.TheVariants.{Going}
use Rattle.rcell_pipe_request.specs.declared.error.ErrorKind.{ErrorKind}
use Rattle.rcell_pipe_request.specs.declared.error.RequestError.{RequestError}
use Rattle.rcell_pipe_request.specs.declared.error.FieldReadingStop.{FieldReadingStop}
use Rattle.rcell_pipe_request.specs.declared.error.FieldReadingStop.TheVariants as field_stops
use Rattle.rcell_pipe_request.specs.declared.error.RequestStop.{RequestStop}
use Rattle.rcell_pipe_request.specs.declared.error.RequestStop.TheVariants as request_stops
use Rattle.rcell_pipe_request.specs.RequestFields.{RequestFieldReading, reading_repeated_n_times}
use Rattle.rcell_pipe_request.specs.Feeds.{RequestReaderValue, RequestFieldReadingFails, FailsWithErrorPosition}
use Rattle.rcell_pipe_request.specs.Feeds.{LaterContentWasPossibleBefore, request_reader_may_hold_bytes, left}
use Rattle.rcell_pipe_request.specs.Feeds.{OpenSourceReachesState, ReadingReturnsForAnyContent}
use Rattle.rcell_pipe_request.specs.Feeds.{read_state_after_field_stop, read_state_after_request_stop}

-- one more step without an error
pub steps-on : {S E : Type 0} (step : S → ComingBytes → Result (S × ComingBytes) E) (so_far next : S) (count i : ℕ) (c rest : ComingBytes) (all : Result (S × ComingBytes) E)
    → i < count → step so_far c ≡ Ok (next, rest) → reading_repeated_n_times step so_far (count - i) c ≡ all → reading_repeated_n_times step next (count - (i + 1)) rest ≡ all
unfolding reading_repeated_n_times
steps-on step so_far next count i c rest all within one before =
    let left : count - i ≡ suc (count - (i + 1)) = omega (arith, within) in
    let same : reading_repeated_n_times step so_far (count - i) c
    ≡ reading_repeated_n_times step next (count - (i + 1)) rest = rw
    (left, one) refl in
    sym same ∙ before

-- a step with an error is the last step
pub steps-end : {S E : Type 0} (step : S → ComingBytes → Result (S × ComingBytes) E) (so_far : S) (count i : ℕ) (c : ComingBytes) (error : E) (all : Result (S × ComingBytes) E)
    → i < count → step so_far c ≡ Err error → reading_repeated_n_times step so_far (count - i) c ≡ all → all ≡ Err error
unfolding reading_repeated_n_times
steps-end step so_far count i c error all within one before =
    let left : count - i ≡ suc (count - (i + 1)) = omega (arith, within) in
    let same : reading_repeated_n_times step so_far (count - i) c ≡ Err error = rw (left, one) refl in
    sym before ∙ same

-- after the last step, the state is the result
pub steps-done : {S E : Type 0} (step : S → ComingBytes → Result (S × ComingBytes) E) (so_far : S) (count i : ℕ) (c : ComingBytes) (all : Result (S × ComingBytes) E)
    → count ≤ i → reading_repeated_n_times step so_far (count - i) c ≡ all → all ≡ Ok (so_far, c)
unfolding reading_repeated_n_times
steps-done step so_far count i c all past before =
    let left : count - i ≡ 0 = omega (arith, past) in
    let same : reading_repeated_n_times step so_far (count - i) c ≡ Ok (so_far, c) = rw left refl in
    sym before ∙ same

-- an error of a step is the error of all steps
pub RequestFieldReadingFails-of : {X Y : Type 0} (stop : FieldReadingStop) (first old new : RequestReaderValue)
    (one : ComingBytes → RequestFieldReading X)
    (all : ComingBytes → RequestFieldReading Y) → LaterContentWasPossibleBefore first old
    → ((c : ComingBytes) → request_reader_may_hold_bytes c old ≡ true → (kind : ErrorKind) → one (left c old) ≡ Err kind → all (left c first) ≡ Err kind)
    → RequestFieldReadingFails stop old new one → RequestFieldReadingFails stop first new all
RequestFieldReadingFails-of field_stops.Memory first old new one all before on fails = λ c is. before c (fails c is)
RequestFieldReadingFails-of (field_stops.Error kind) first old new one all before on fails = λ c is.
    let at = fails c is in (before c at.0, on c at.0 kind at.1)

pub FailsWithErrorPosition-of : {X Y : Type 0} (stop : RequestStop) (first old new : RequestReaderValue)
    (one : ComingBytes → Result (X × ComingBytes) RequestError) (all : ComingBytes
    → Result (Y × ComingBytes) RequestError)
    → LaterContentWasPossibleBefore first old
    → ((c : ComingBytes) → request_reader_may_hold_bytes c old ≡ true → (error : RequestError)
    → one (left c old) ≡ Err error
    → all (left c first) ≡ Err error)
    → FailsWithErrorPosition stop old new one → FailsWithErrorPosition stop first new all
FailsWithErrorPosition-of request_stops.Memory first old new one all before on fails = λ c is. before c (fails c is)
FailsWithErrorPosition-of (request_stops.Error error) first old new one all before on fails = λ c is.
    let at = fails c is in (before c at.0, on c at.0 error at.1)

-- after `i` of `count` steps, for any content of the source: the other steps lead from the state to the result of all
-- steps; and the source is still open if it was at first
abbrev pub StepsLeadOn : {S E : Type 0} → (S → ComingBytes → Result (S × ComingBytes) E) → (start : S) (count : ℕ)
    (first : RequestReaderValue) (i : ℕ) (so_far : S) (now : RequestReaderValue) → Type 0
StepsLeadOn step start count first i so_far now =
    ((c : ComingBytes) → request_reader_may_hold_bytes c now ≡ true → (request_reader_may_hold_bytes c first ≡ true)
    × (reading_repeated_n_times step so_far (count - i) (left c now)
    ≡ reading_repeated_n_times step start count (left c first))) × OpenSourceReachesState Going first now

module _ {S E : Type 0} (step : S → ComingBytes → Result (S × ComingBytes) E) (start : S) (count : ℕ)
    (first : RequestReaderValue) (i : ℕ) (so_far : S) (now : RequestReaderValue)
    (before : StepsLeadOn step start count first i so_far now) where
  pub one-step-on : (next : S) (new : RequestReaderValue) → i < count
      → ReadingReturnsForAnyContent now next new (step so_far) × OpenSourceReachesState Going now new
      → StepsLeadOn step start count first (i + 1) next new
  one-step-on next new within one = (
    λ c is.
        let at = one.0 c is in
        let led = before.0 c at.0 in
        (led.0, steps-on step so_far next count i (left c now) (left c new) _ within at.1 led.1),
    λ going. one.1 (before.1 going),
  )

  pub all-steps-done : count ≤ i
      → ReadingReturnsForAnyContent first so_far now (reading_repeated_n_times step start count)
      × OpenSourceReachesState Going first now
  all-steps-done past = (
    λ c is.
        let led = before.0 c is in
        (led.0, steps-done step so_far count i (left c now) _ past led.1),
    before.1,
  )

module _ {S : Type 0} (step : S → ComingBytes → Result (S × ComingBytes) RequestError) (start : S) (count : ℕ)
    (first : RequestReaderValue) (i : ℕ) (so_far : S) (now : RequestReaderValue)
    (before : StepsLeadOn step start count first i so_far now) where
  pub step-fails : (stop : RequestStop) (new : RequestReaderValue) → i < count
      → FailsWithErrorPosition stop now new (step so_far)
      × OpenSourceReachesState (read_state_after_request_stop stop) now new
      → FailsWithErrorPosition stop first new (reading_repeated_n_times step start count)
      × OpenSourceReachesState (read_state_after_request_stop stop) first new
  step-fails stop new within one = (
    FailsWithErrorPosition-of stop first now new (step so_far) (reading_repeated_n_times step start count)
        (λ c is. (before.0 c is).0)
        (λ c is error at. steps-end step so_far count i (left c now) error _ within at (before.0 c is).1) one.0,
    λ going. one.1 (before.1 going),
  )

module _ {S : Type 0} (step : S → ComingBytes → RequestFieldReading S) (start : S) (count : ℕ)
    (first : RequestReaderValue) (i : ℕ) (so_far : S) (now : RequestReaderValue)
    (before : StepsLeadOn step start count first i so_far now) where
  pub field-step-fails : (stop : FieldReadingStop) (new : RequestReaderValue) → i < count
      → RequestFieldReadingFails stop now new (step so_far)
      × OpenSourceReachesState (read_state_after_field_stop stop) now new
      → RequestFieldReadingFails stop first new (reading_repeated_n_times step start count)
      × OpenSourceReachesState (read_state_after_field_stop stop) first new
  field-step-fails stop new within one = (
    RequestFieldReadingFails-of stop first now new (step so_far) (reading_repeated_n_times step start count)
        (λ c is. (before.0 c is).0)
        (λ c is kind at. steps-end step so_far count i (left c now) kind _ within at (before.0 c is).1) one.0,
    λ going. one.1 (before.1 going),
  )
