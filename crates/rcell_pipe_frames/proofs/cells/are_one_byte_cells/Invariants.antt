use Rattle.std.proofs.Common.{◌≡◌, take, true}
use Rattle.rcell_pipe_frames.specs.FrameBytes.{are_one_byte_cells}
use Rattle.rcell_pipe_frames.proofs.cells.are_one_byte_cells.Given as goal

abbrev pub invariant-loop-row : goal.invariant-loop-row
invariant-loop-row l = are_one_byte_cells (take l.row l.grid.rows) ≡ true
