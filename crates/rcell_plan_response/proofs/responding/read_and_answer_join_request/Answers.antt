use Rattle.std.proofs.Common.{◌≡◌, Ok, Some}
use Rattle.rcell_pipe_response.proofs.EndLemmas.{ends_as}
use Rattle.rcell_pipe_join.specs.JoinRequests.{join_request_or_error, join_request_as_value}
use Rattle.rcell_pipe_join.specs.JoinEnds.{IsJoinResponse}
use Rattle.rcell_plan_response.specs.parts.RequestStops.{pipe_error_of_request_stop}
use Rattle.rcell_plan_response.specs.parts.Answered.{IsResponseToFeed}
use Rattle.rcell_plan_response.proofs.PlanEndLemmas.{ends_more, stop_fine, stopped_join, only_stop, only_end_of_join}
use Rattle.rcell_plan_response.proofs.PlanEndLemmas.{asked_of_join, asked_of_stop}
use Rattle.rcell_plan_response.proofs.responding.read_and_answer_join_request.Goals as goal

pub returns-in-Ok-clause-end : goal.returns-in-Ok-clause-end
returns-in-Ok-clause-end g c =
    let read = Ok (join_request_as_value c.in-Ok.request) in
    ends_more (IsJoinResponse read)
    (IsResponseToFeed c.args.feed.now c.read_join_request.new.feed (λ x. IsJoinResponse (join_request_or_error x)))
    (λ response error is. (
      only_end_of_join read response error is,
      λ x fit.
          let at = c.in-Ok.ensures.reads.0 x fit in
          (at.0, rw at.1 is),
    ))
    c.respond_to_join_request.ensures

pub returns-in-Ok-clause-asked : goal.returns-in-Ok-clause-asked
returns-in-Ok-clause-asked g c = λ going.
    asked_of_join (join_request_as_value c.in-Ok.request) _ _ c.respond_to_join_request.ensures.is
    (c.in-Ok.ensures.reads.1 going)

pub returns-in-Err-clause-end : goal.returns-in-Err-clause-end
returns-in-Err-clause-end g c =
    ends_as (IsResponseToFeed c.args.feed.now c.read_join_request.new.feed
    (λ x. IsJoinResponse (join_request_or_error x)))
    (Some (pipe_error_of_request_stop c.in-Err.stop)) (
      only_stop c.in-Err.stop,
      stopped_join c.in-Err.stop c.args.feed.now c.read_join_request.new.feed c.in-Err.ensures.reads.0,
    )
    (stop_fine c.in-Err.stop) c.reject_unread_request.ensures

pub returns-in-Err-clause-asked : goal.returns-in-Err-clause-asked
returns-in-Err-clause-asked g c = λ going.
    asked_of_stop c.in-Err.stop _ c.reject_unread_request.ensures.reported_is (c.in-Err.ensures.reads.1 going)
