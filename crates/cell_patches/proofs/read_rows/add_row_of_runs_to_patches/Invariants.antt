use Rattle.std.proofs.Common.{◌≡◌, ◌<◌, ◌+◌, ℕ, None, length, slice_index_or}
use Rattle.std.specs.Prelude.{All}
use Rattle.cell_core.specs.Grid.{cell_at}
use Rattle.cell_core.specs.Runs.{cells_of_runs}
use Rattle.cell_patches.specs.parts.Passes.{AreMeasuresOfPatchesUpToCell, HaveSameCores}
use Rattle.cell_patches.proofs.read_rows.add_row_of_runs_to_patches.Given as goal

abbrev pub ghost-add_run : goal.ghost-add_run
ghost-add_run g a = g.tile

abbrev pub invariant-loop-number : goal.invariant-loop-number
invariant-loop-number g l = record {
  read : AreMeasuresOfPatchesUpToCell g.tile l.row l.col l.patches.items;
  cores : HaveSameCores l.fn.patches.items l.patches.items;
  cells : (b : ℕ) → slice_index_or (cells_of_runs l.number-iterator) b None ≡ cell_at g.tile.numbers l.row (l.col + b);
  wide : l.col + length (cells_of_runs l.number-iterator) ≡ g.tile.numbers.region.cols;
  some : All (λ run. 0 < run.1) l.number-iterator;
}
