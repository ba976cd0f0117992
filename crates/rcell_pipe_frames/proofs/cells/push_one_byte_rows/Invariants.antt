use Rattle.std.proofs.Common.{take, map, flat_map}
use Rattle.cell_core_devices.specs.Blocks.{IsTextAppendedThroughBlock}
use Rattle.rcell_pipe_frames.specs.FrameBytes.{byte_of_cell}
use Rattle.rcell_pipe_frames.proofs.cells.push_one_byte_rows.Given as goal

abbrev pub invariant-loop-row : goal.invariant-loop-row
invariant-loop-row g l = IsTextAppendedThroughBlock g.W.Sink.taken g.W.Sink.faults l.fn.out l.fn.block
    (flat_map (map byte_of_cell) (take l.row l.grid.rows)) l.out l.block
