use Rattle.std.proofs.Common.{◌≡◌, Some}
use Rattle.rcell_pipe_response.specs.RunEnds.{IsResponseToRunRequest}
use Rattle.rcell_pipe_response.proofs.EndLemmas.{ends_as}
use Rattle.rcell_pipe_join.specs.JoinEnds.{IsJoinResponse}
use Rattle.rcell_pipe_join.specs.JoinRequests.{join_request_or_error}
use Rattle.rcell_plan_response.specs.PlanEnds.{IsPlanResponse}
use Rattle.rcell_plan_response.specs.Responses.{request_form_reading, run_request_or_error, plan_request_or_error}
use Rattle.rcell_plan_response.specs.Responses.{IsResponseToRequestOfForm, response_form_of_run}
use Rattle.rcell_plan_response.specs.parts.RequestStops.{pipe_error_of_request_stop}
use Rattle.rcell_plan_response.specs.parts.Answered.{IsResponseToFeed}
use Rattle.rcell_plan_response.proofs.PlanEndLemmas.{ends_more, stop_fine, stopped_form, only_stop, asked_of_field}
use Rattle.rcell_plan_response.proofs.responding.read_and_answer_request.Goals as goal

pub returns-in-Run-clause-end : goal.returns-in-Run-clause-end
returns-in-Run-clause-end g c =
    ends_more
    (IsResponseToFeed c.read_request_form.new.feed c.read_and_answer_run_request.new.feed
    (λ x. IsResponseToRunRequest (response_form_of_run c.in-Run.maps) (run_request_or_error c.in-Run.maps x)))
    (IsResponseToFeed c.args.feed.now c.read_and_answer_run_request.new.feed (λ x. IsResponseToRequestOfForm
    (request_form_reading x)))
    (λ response error is. (
      is.0,
      λ x fit.
          let of_run = is.1 x fit in
          let form = c.in-Ok.ensures.0 x of_run.0 in
          (form.0, rw (form.1, c.in-Run.is) of_run.1),
    ))
    c.read_and_answer_run_request.ensures.end

pub returns-in-Run-clause-asked : goal.returns-in-Run-clause-asked
returns-in-Run-clause-asked g c = λ going. c.read_and_answer_run_request.ensures.asked (c.in-Ok.ensures.1 going)

pub returns-in-Plan-clause-end : goal.returns-in-Plan-clause-end
returns-in-Plan-clause-end g c =
    ends_more (IsResponseToFeed c.read_request_form.new.feed c.read_and_answer_plan_request.new.feed
    (λ x. IsPlanResponse (plan_request_or_error x)))
    (IsResponseToFeed c.args.feed.now c.read_and_answer_plan_request.new.feed (λ x. IsResponseToRequestOfForm
    (request_form_reading x)))
    (λ response error is. (
      is.0,
      λ x fit.
          let of_plan = is.1 x fit in
          let form = c.in-Ok.ensures.0 x of_plan.0 in
          (form.0, rw (form.1, c.in-Plan.is) of_plan.1),
    ))
    c.read_and_answer_plan_request.ensures.end

pub returns-in-Plan-clause-asked : goal.returns-in-Plan-clause-asked
returns-in-Plan-clause-asked g c = λ going. c.read_and_answer_plan_request.ensures.asked (c.in-Ok.ensures.1 going)

pub returns-in-Join-clause-end : goal.returns-in-Join-clause-end
returns-in-Join-clause-end g c =
    ends_more (IsResponseToFeed c.read_request_form.new.feed c.read_and_answer_join_request.new.feed
    (λ x. IsJoinResponse (join_request_or_error x)))
    (IsResponseToFeed c.args.feed.now c.read_and_answer_join_request.new.feed (λ x. IsResponseToRequestOfForm
    (request_form_reading x)))
    (λ response error is. (
      is.0,
      λ x fit.
          let of_join = is.1 x fit in
          let form = c.in-Ok.ensures.0 x of_join.0 in
          (form.0, rw (form.1, c.in-Join.is) of_join.1),
    ))
    c.read_and_answer_join_request.ensures.end

pub returns-in-Join-clause-asked : goal.returns-in-Join-clause-asked
returns-in-Join-clause-asked g c = λ going. c.read_and_answer_join_request.ensures.asked (c.in-Ok.ensures.1 going)

pub returns-in-Err-clause-end : goal.returns-in-Err-clause-end
returns-in-Err-clause-end g c =
    ends_as (IsResponseToFeed c.args.feed.now c.read_request_form.new.feed (λ x. IsResponseToRequestOfForm
    (request_form_reading x)))
    (Some (pipe_error_of_request_stop c.at.result)) (
      only_stop c.at.result,
      λ x fit. rw c.at.ensures
          (stopped_form c.in-Err.stop c.args.feed.now c.read_request_form.new.feed c.in-Err.ensures.0 x fit),
    )
    (stop_fine c.at.result) c.reject_unread_request.ensures

pub returns-in-Err-clause-asked : goal.returns-in-Err-clause-asked
returns-in-Err-clause-asked g c = λ going.
    asked_of_field c.in-Err.stop c.at.result _ c.at.ensures c.reject_unread_request.ensures.reported_is
    (c.in-Err.ensures.1 going)
