use Rattle.std.proofs.Common.{◌∙◌, List, [], Some, None, length, ap, refl}
use Rattle.rcell_plan.specs.Plans.{plans_of_statements, needs_of_given_maps}
use Rattle.rcell_plan.specs.declared.planning.Plan.{Plan}
use Rattle.rcell_pipe_response.specs.declared.end.PipeError.TheVariants as errors
use Rattle.rcell_pipe_response.specs.RunEnds.{memory_end, end_frame_as_value}
use Rattle.rcell_pipe_response.proofs.EndLemmas.{ends_as, finished_frames}
use Rattle.rcell_plan_response.specs.PlanEnds.{IsPlanResponse}
use Rattle.rcell_plan_response.proofs.PlanEndLemmas.{finished_plan, length-plans}
use Rattle.rcell_plan_response.proofs.plan_response.respond_with_plans.Goals as goal

pub returns-in_default : goal.returns-in_default
returns-in_default g c = λ read accepted.
    ends_as (IsPlanResponse read) (Some errors.Memory) refl (λ write. cc)
    (finished_frames [] (end_frame_as_value c.memory_end.result) (memory_end 0) c.memory_end.ensures c.reject.ensures)

pub returns-in_default-names_of_all_maps : goal.returns-in_default-names_of_all_maps
returns-in_default-names_of_all_maps g c = λ read accepted.
    ends_as (IsPlanResponse read) (Some errors.Memory) refl (λ write. cc)
    (finished_frames [] (end_frame_as_value c.memory_end-in_default-names_of_all_maps.result) (memory_end 0)
    c.memory_end-in_default-names_of_all_maps.ensures c.reject-in_default-names_of_all_maps.ensures)

pub write_plan_response-requires : goal.write_plan_response-requires
write_plan_response-requires g c =
    ap (λ (l : List Plan). length l) (c.as_slice.ensures.value ∙ c.in-Ok.ensures)
    ∙ length-plans _ c.args.statements.now

pub returns : goal.returns
returns g c = λ read accepted.
    let statements = c.args.statements.now in
    ends_as (IsPlanResponse read) None
    (record { names = c.args.names; statements = statements; accepted = accepted; bytes = refl }) (λ write. cc)
    (finished_plan c.args.names _ statements _ c.in-Ok-names_of_all_maps.ensures
    (c.as_slice.ensures.value ∙ c.in-Ok.ensures
    ∙ ap (λ n. plans_of_statements (needs_of_given_maps n) statements) c.len.ensures.count)
    c.write_plan_response.ensures)
