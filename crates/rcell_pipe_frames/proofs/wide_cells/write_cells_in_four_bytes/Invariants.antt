use Rattle.std.proofs.Common.{◌≡◌, ◌*◌, length, take, flat_map}
use Rattle.rcell_pipe_frames.specs.FrameBytes.{four_bytes_of_cell}
use Rattle.rcell_pipe_frames.proofs.wide_cells.write_cells_in_four_bytes.Given as goal

abbrev pub invariant-loop-i : goal.invariant-loop-i
invariant-loop-i l = record {
  width : length l.bytes ≡ 4 * length l.cells;
  done : take (4 * l.i) l.bytes ≡ flat_map four_bytes_of_cell (take l.i l.cells);
}
