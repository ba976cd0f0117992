use Rattle.std.proofs.Common.{◌≡◌, ◌<◌, All}
use Rattle.std.specs.List.{list_all}
use Rattle.cell_core.specs.Runs.{cells_of_runs}
use Rattle.rcell_pipe_frames.specs.FrameBytes.{is_one_byte_cell}
use Rattle.rcell_pipe_frames.proofs.cells.are_one_byte_runs.Given as goal

abbrev pub invariant-loop-cell : goal.invariant-loop-cell
invariant-loop-cell l = record {
  whole : list_all is_one_byte_cell (cells_of_runs l.cell-iterator)
      ≡ list_all is_one_byte_cell (cells_of_runs l.fn.runs);
  lengths : All (λ run. 0 < run.1) l.cell-iterator;
}
