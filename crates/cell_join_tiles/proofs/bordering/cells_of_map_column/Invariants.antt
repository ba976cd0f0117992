use Rattle.std.proofs.Common.{ℕ, ◌≡◌, ◌<◌, None, length}
use Rattle.std.specs.Prelude.{slice_index_or}
use Rattle.cell_core.specs.Grid.{cell_at}
use Rattle.cell_join_tiles.proofs.bordering.cells_of_map_column.Given as goal

abbrev pub invariant-loop-row : goal.invariant-loop-row
invariant-loop-row l = record {
  long : length l.cells.items ≡ l.row;
  each : (row : ℕ) → row < l.row → slice_index_or l.cells.items row None ≡ cell_at l.map row l.col;
}
