use Rattle.std.proofs.Common.{Some, [], refl}
use Rattle.cell_core_devices.specs.declared.source.Asked.TheVariants.{Going}
use Rattle.rcell_pipe_response.specs.declared.end.PipeError.TheVariants as errors
use Rattle.rcell_pipe_response.specs.RunEnds.{memory_end, end_frame_as_value}
use Rattle.rcell_pipe_response.proofs.EndLemmas.{ends_as, finished_frames}
use Rattle.rcell_plan_response.specs.Responses.{request_form_reading, IsResponseToRequestOfForm}
use Rattle.rcell_plan_response.specs.parts.Answered.{IsResponseToFeed, IsResponseToSource}
use Rattle.rcell_plan_response.proofs.PlanEndLemmas.{ends_more, memory_form, of_source}
use Rattle.rcell_plan_response.proofs.responding.read_and_answer_from_source.Goals as goal

pub returns-in-Ok-clause-end : goal.returns-in-Ok-clause-end
returns-in-Ok-clause-end g c =
    let now = c.into_source-source.result in
    ends_more (IsResponseToFeed c.new-feed.result c.read_and_answer_request-outcome.new.feed
    (λ x. IsResponseToRequestOfForm (request_form_reading x)))
    (IsResponseToSource c.args.source.0.1 now.0.1 now.1)
    (of_source c.args.source.0.1 now.0.1 c.args.source.1 now.1 c.new-feed.result
    c.read_and_answer_request-outcome.new.feed
    c.new-feed.ensures c.into_source-source.ensures.gave c.into_source-source.ensures.asked)
    c.read_and_answer_request-outcome.ensures.end

pub returns-in-Err-clause-end : goal.returns-in-Err-clause-end
returns-in-Err-clause-end g c =
    ends_as (IsResponseToSource c.args.source.0.1 c.args.source.0.1 c.args.source.1) (Some errors.Memory)
    (refl, λ x fit. memory_form (request_form_reading _)) (λ write. cc)
    (finished_frames [] (end_frame_as_value c.memory_end.result)
    (memory_end 0) c.memory_end.ensures c.reject-outcome.ensures)
