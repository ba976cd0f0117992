use Rattle.std.proofs.Common.{take, flat_map}
use Rattle.std.specs.List.{zip}
use Rattle.cell_core_devices.specs.Blocks.{IsTextAppendedThroughBlock}
use Rattle.rcell_plan_response.specs.PlanFrames.{plan_bytes}
use Rattle.rcell_plan_response.proofs.plan_frames.push_plans.Given as goal

abbrev pub invariant-loop-i : goal.invariant-loop-i
invariant-loop-i g l = IsTextAppendedThroughBlock g.W.Sink.taken g.W.Sink.faults l.fn.out l.fn.block
    (flat_map (plan_bytes l.names) (take l.i (zip l.plans l.statements))) l.out l.block
