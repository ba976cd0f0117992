use Rattle.std.proofs.Common.{take, flat_map}
use Rattle.cell_core_devices.specs.Blocks.{IsTextAppendedThroughBlock}
use Rattle.rcell_pipe_frames.specs.FrameBytes.{four_bytes_of_cell}
use Rattle.rcell_pipe_frames.proofs.cells.push_four_byte_rows.Given as goal

abbrev pub invariant-loop-row : goal.invariant-loop-row
invariant-loop-row g l = IsTextAppendedThroughBlock g.W.Sink.taken g.W.Sink.faults l.fn.out l.fn.block
    (flat_map (flat_map four_bytes_of_cell) (take l.row l.grid.rows)) l.out l.block
