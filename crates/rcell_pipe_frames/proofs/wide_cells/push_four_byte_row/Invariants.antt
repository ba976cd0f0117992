use Rattle.std.proofs.Common.{◌≡◌, ◌≤◌, ◌-◌, length, take, flat_map}
use Rattle.cell_core_devices.specs.Blocks.{IsTextAppendedThroughBlock}
use Rattle.rcell_pipe_frames.specs.FrameBytes.{four_bytes_of_cell}
use Rattle.rcell_pipe_frames.proofs.wide_cells.push_four_byte_row.Given as goal

abbrev pub invariant-parts : goal.invariant-parts
invariant-parts g l = record {
  width : length l.bytes ≡ 1024;
  within : l.at ≤ length l.cells;
  pushed : IsTextAppendedThroughBlock g.W.Sink.taken g.W.Sink.faults l.fn.out l.fn.block
      (flat_map four_bytes_of_cell (take l.at l.cells)) l.out l.block;
}

abbrev pub decreases-parts : goal.decreases-parts
decreases-parts g l = length l.cells - l.at
