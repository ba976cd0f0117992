use Rattle.std.proofs.Common.{◌≡◌, Ok, Some}
use Rattle.rcell_pipe_request.specs.Requests.{run_request_as_value}
use Rattle.rcell_pipe_response.specs.RunEnds.{IsResponseToRunRequest}
use Rattle.rcell_pipe_response.proofs.EndLemmas.{ends_as, only_end_of_run}
use Rattle.rcell_plan_response.specs.Responses.{response_form_of_run, run_request_or_error}
use Rattle.rcell_plan_response.specs.parts.RequestStops.{pipe_error_of_request_stop}
use Rattle.rcell_plan_response.specs.parts.Answered.{IsResponseToFeed}
use Rattle.rcell_plan_response.proofs.PlanEndLemmas.{ends_more, stop_fine, stopped_run, only_stop, asked_of_run}
use Rattle.rcell_plan_response.proofs.PlanEndLemmas.{asked_of_stop}
use Rattle.rcell_plan_response.proofs.responding.read_and_answer_run_request.Goals as goal

pub returns-in-Ok-clause-end : goal.returns-in-Ok-clause-end
returns-in-Ok-clause-end g c =
    let read = Ok (run_request_as_value c.in-Ok.request) in
    let form = response_form_of_run c.args.run in
    ends_more (IsResponseToRunRequest form read)
    (IsResponseToFeed c.args.feed.now c.read_run_request_of_form.new.feed (λ x. IsResponseToRunRequest form
    (run_request_or_error c.args.run x)))
    (λ response error is. (
      only_end_of_run form read response error is,
      λ x fit.
          let at = c.in-Ok.ensures.0 x fit in
          (at.0, rw at.1 is),
    ))
    (rw c.response_form_of_run.ensures at c.run_request.ensures)

pub returns-in-Ok-clause-asked : goal.returns-in-Ok-clause-asked
returns-in-Ok-clause-asked g c = λ going.
    asked_of_run c.response_form_of_run.result (run_request_as_value c.in-Ok.request) _ _ c.run_request.ensures.is
    (c.in-Ok.ensures.1 going)

pub returns-in-Err-clause-end : goal.returns-in-Err-clause-end
returns-in-Err-clause-end g c =
    ends_as (IsResponseToFeed c.args.feed.now c.read_run_request_of_form.new.feed
    (λ x. IsResponseToRunRequest (response_form_of_run c.args.run) (run_request_or_error c.args.run x)))
    (Some (pipe_error_of_request_stop c.in-Err.stop)) (
      only_stop c.in-Err.stop,
      stopped_run c.args.run c.in-Err.stop c.args.feed.now c.read_run_request_of_form.new.feed c.in-Err.ensures.0,
    )
    (stop_fine c.in-Err.stop) c.reject_unread_request.ensures

pub returns-in-Err-clause-asked : goal.returns-in-Err-clause-asked
returns-in-Err-clause-asked g c = λ going.
    asked_of_stop c.in-Err.stop _ c.reject_unread_request.ensures.reported_is (c.in-Err.ensures.1 going)
