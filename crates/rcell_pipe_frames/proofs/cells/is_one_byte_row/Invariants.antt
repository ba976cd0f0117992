use Rattle.std.proofs.Common.{◌≡◌, take}
use Rattle.std.specs.List.{list_all}
use Rattle.rcell_pipe_frames.specs.FrameBytes.{is_one_byte_cell}
use Rattle.rcell_pipe_frames.proofs.cells.is_one_byte_row.Given as goal

abbrev pub invariant-loop-cell : goal.invariant-loop-cell
invariant-loop-cell l = l.all ≡ list_all is_one_byte_cell (take l.cell-index l.cells)
