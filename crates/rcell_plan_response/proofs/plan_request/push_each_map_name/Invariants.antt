use Rattle.std.proofs.Common.{◌≡◌, ◌+◌, length}
use Rattle.rcell_pipe_request.proofs.StepLemmas.{StepsLeadOn}
use Rattle.rcell_plan_response.specs.PlanRequests.{names_with_next_name_reading}
use Rattle.rcell_plan_response.proofs.plan_request.push_each_map_name.Given as goal

abbrev pub invariant-loop-i : goal.invariant-loop-i
invariant-loop-i g l = StepsLeadOn names_with_next_name_reading l.fn.names l.count l.fn.feed l.i l.names l.feed
    × (length l.names ≡ length l.fn.names + l.i)
