use Rattle.std.proofs.Common.{take, flat_map}
use Rattle.cell_core_devices.specs.Blocks.{IsTextAppendedThroughBlock}
use Rattle.rcell_plan_response.specs.PlanFrames.{need_bytes}
use Rattle.rcell_plan_response.proofs.plan_frames.push_each_map_need.Given as goal

abbrev pub invariant-loop-need : goal.invariant-loop-need
invariant-loop-need g l = IsTextAppendedThroughBlock g.W.Sink.taken g.W.Sink.faults l.fn.out l.fn.block
    (flat_map (need_bytes l.names) (take l.need-index l.needs)) l.out l.block
