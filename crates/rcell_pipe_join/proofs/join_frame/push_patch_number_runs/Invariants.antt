use Rattle.std.proofs.Common.{take, flat_map}
use Rattle.cell_core_devices.specs.Blocks.{IsTextAppendedThroughBlock}
use Rattle.rcell_pipe_join.specs.JoinFrames.{patch_number_run_bytes}
use Rattle.rcell_pipe_join.proofs.join_frame.push_patch_number_runs.Given as goal

abbrev pub invariant-loop-run : goal.invariant-loop-run
invariant-loop-run g l = IsTextAppendedThroughBlock g.W.Sink.taken g.W.Sink.faults l.fn.out l.fn.block
    (flat_map patch_number_run_bytes (take l.run-index l.runs)) l.out l.block
