use Rattle.std.proofs.Common.{[], Ok, Some, refl}
use Rattle.rcell_script.specs.ReadScripts.{IsScriptFault}
use Rattle.rcell_script.specs.Scripts.{IsScript}
use Rattle.rcell_pipe_response.specs.declared.end.PipeError.TheVariants as errors
use Rattle.rcell_pipe_response.specs.RunEnds.{memory_end, end_frame_as_value}
use Rattle.rcell_pipe_response.proofs.EndLemmas.{ends_as, finished_frames, not_write}
use Rattle.rcell_plan_response.specs.PlanRequests.{plan_request_as_value}
use Rattle.rcell_plan_response.specs.PlanEnds.{IsPlanResponse}
use Rattle.rcell_plan_response.proofs.PlanEndLemmas.{plan_rejection}
use Rattle.rcell_plan_response.proofs.plan_response.respond_to_plan_request.Goals as goal

pub returns-in-Ok : goal.returns-in-Ok
returns-in-Ok g c =
    let script = c.args.request.script.items in
    let denoted : IsScript c.args.request.names script c.statements.result.now =
    rw (← c.statements.ensures, c.deref.ensures.value) at c.in-Ok.ensures.ok in
    c.respond_with_plans.ensures (Ok (plan_request_as_value c.args.request))
    (record { script = script; request = refl; denoted = denoted })

pub returns-in-Memory : goal.returns-in-Memory
returns-in-Memory g c =
    ends_as (IsPlanResponse (Ok (plan_request_as_value c.args.request))) (Some errors.Memory) refl (λ write. cc)
    (finished_frames [] (end_frame_as_value c.memory_end.result) (memory_end 0) c.memory_end.ensures c.reject.ensures)

pub returns : goal.returns
returns g c =
    let rejected = c.reject_script.ensures in
    let first : IsScriptFault c.args.request.names c.args.request.script.items c.in-Err.error =
    rw c.deref.ensures.value at (c.in-Err.ensures.err c.in_default.not-Memory) in
    ends_as (IsPlanResponse (Ok (plan_request_as_value c.args.request))) (Some rejected.error)
    (plan_rejection c.args.request.names c.args.request.script.items c.in-Err.error rejected.error rejected.end
    first rejected.rejects)
    (not_write c.in-Err.error rejected.error rejected.end rejected.rejects) rejected.finished
