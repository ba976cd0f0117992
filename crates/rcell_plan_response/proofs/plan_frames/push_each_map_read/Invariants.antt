use Rattle.std.proofs.Common.{take, flat_map}
use Rattle.cell_core_devices.specs.Blocks.{IsTextAppendedThroughBlock}
use Rattle.rcell_plan_response.specs.PlanFrames.{map_read_bytes}
use Rattle.rcell_plan_response.proofs.plan_frames.push_each_map_read.Given as goal

abbrev pub invariant-loop-read : goal.invariant-loop-read
invariant-loop-read g l = IsTextAppendedThroughBlock g.W.Sink.taken g.W.Sink.faults l.fn.out l.fn.block
    (flat_map (map_read_bytes l.names) (take l.read-index l.reads)) l.out l.block
