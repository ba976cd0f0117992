use Rattle.std.proofs.Common.{◌≡◌, ◌+◌, ◌++◌, length, map, take}
use Rattle.cell_core.specs.Runs.{cells_of_runs}
use Rattle.rcell_pipe_frames.specs.FrameBytes.{byte_of_cell}
use Rattle.rcell_pipe_frames.proofs.cells.write_bytes_of_runs.Given as goal

abbrev pub invariant-loop-cell : goal.invariant-loop-cell
invariant-loop-cell l = record {
  whole : take l.at l.bytes ++ map byte_of_cell (cells_of_runs l.cell-iterator)
      ≡ map byte_of_cell (cells_of_runs l.fn.runs);
  within : l.at + length (cells_of_runs l.cell-iterator) ≡ length l.bytes;
}
