-- The meaning of a request determines its response.
use Rattle.std.proofs.Common.{◌≡◌, ℕ, List, Ok, Err, Some, None, Option, refl, sym, subst, codes}
use Rattle.std.specs.Prelude.{Result}
use Rattle.rcell_pipe_request.specs.RequestFields.{RequestFieldReading}
use Rattle.rcell_pipe_request.specs.Requests.{RunRequestValue}
use Rattle.rcell_pipe_request.specs.declared.error.RequestError.{RequestError}
use Rattle.rcell_pipe_response.specs.declared.end.PipeError.{PipeError}
use Rattle.rcell_pipe_response.specs.declared.end.PipeError.TheVariants as errors
use Rattle.rcell_pipe_response.specs.declared.frame_run.ResponseForm.TheVariants.{Frames}
use Rattle.rcell_pipe_response.specs.RunEnds.{IsResponseOfAcceptedRequest, IsResponseToRunRequest}
use Rattle.rcell_plan_response.specs.declared.responding.RunForm.TheVariants.{FullMaps}
use Rattle.rcell_plan_response.specs.declared.responding.RequestForm.{RequestForm}
use Rattle.rcell_plan_response.specs.declared.responding.RequestForm.TheVariants.{Run}
use Rattle.rcell_plan_response.specs.Responses.{IsResponseToRequestOfForm, request_form_reading, run_request_or_error}
use Rattle.rcell_pipe_law.specs.RequestLaw.{IsRequestReadBack, SentRequest, SentRequestsAreRead}
use Rattle.rcell_pipe_law.specs.RequestLaw.{meaning_of_sent_request, request_bytes, source_of_bytes}
use Rattle.rcell_worked.specs.SentResponses.{AreFramesOfRequest, SentRequestsGetFrames, bytes_of_frames_request}

module _ (r : SentRequest) (back : IsRequestReadBack (codes "RCELLQ1\n") (request_bytes r)
    (meaning_of_sent_request r)) where
  form_is : request_form_reading (source_of_bytes (bytes_of_frames_request r))
      ≡ Ok (Run (FullMaps Frames), source_of_bytes (request_bytes r))
  unfolding request_form_reading
  form_is = rw (back.form) refl

  read_is : run_request_or_error (FullMaps Frames) (source_of_bytes (request_bytes r)) ≡ Ok (meaning_of_sent_request r)
  read_is = rw (back.rest) refl

  -- the response to the maps, the script and the questions that the request means
  abbrev IsMeant : List ℕ → Option PipeError → Type 0
  IsMeant response error = IsResponseToRunRequest Frames (Ok (meaning_of_sent_request r)) response error

  as_meant : (response : List ℕ) (error : Option PipeError)
      → IsResponseToRequestOfForm (request_form_reading (source_of_bytes (bytes_of_frames_request r))) response error
      → IsMeant response error
  as_meant response error h =
      subst (λ (read : Result RunRequestValue RequestError). IsResponseToRunRequest Frames read response error) read_is
      (subst (λ (form : RequestFieldReading RequestForm). IsResponseToRequestOfForm form response error) form_is h)

  from_meant : (response : List ℕ) (error : Option PipeError)
      → IsMeant response error → IsResponseToRequestOfForm (request_form_reading
      (source_of_bytes (bytes_of_frames_request r))) response error
  from_meant response error h =
      subst (λ (form : RequestFieldReading RequestForm). IsResponseToRequestOfForm form response error) (sym form_is)
      (subst (λ (read : Result RunRequestValue RequestError). IsResponseToRunRequest Frames read response error)
      (sym read_is) h)

frames_from : (run : RunRequestValue) (response : List ℕ) → IsResponseOfAcceptedRequest Frames (Ok run) response
    → AreFramesOfRequest run response
frames_from run response h =
    let asked : RunRequestValue =
    record { shelves = h.shelves; script = h.accepted.script; questions = h.questions } in
    let read : Ok run ≡ Ok asked = h.accepted.request in
    let same : asked ≡ run = cc in
    let frames : AreFramesOfRequest asked response = record {
      statements = h.statements;
      denoted = h.accepted.denoted;
      enough = h.accepted.enough;
      known = h.accepted.known;
      frames = h.gives.0;
      gives = h.gives.1.0;
      bytes = h.gives.1.1;
    } in
    subst (λ (meaning : RunRequestValue). AreFramesOfRequest meaning response) same frames

frames_to : (run : RunRequestValue) (response : List ℕ) → AreFramesOfRequest run response
    → IsResponseOfAcceptedRequest Frames (Ok run) response
frames_to run response h = record {
  shelves = run.shelves;
  statements = h.statements;
  questions = run.questions;
  accepted = record { script = run.script; request = refl; denoted = h.denoted; enough = h.enough; known = h.known };
  gives = (h.frames, (h.gives, h.bytes));
}

pub sent_get_frames : SentRequestsAreRead → SentRequestsGetFrames
sent_get_frames law r is =
    let back = law (codes "RCELLQ1\n") r refl is in
    record {
      done = λ response. (
        λ h. frames_from (meaning_of_sent_request r) response (as_meant r back response None h),
        λ h. from_meant r back response None (frames_to (meaning_of_sent_request r) response h),
      );
      read = λ response error h.
          let none : Ok (meaning_of_sent_request r) ≡ Err error = (as_meant r back response
          (Some (errors.Request error)) h).0 in cc;
    }
