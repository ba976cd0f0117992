use Rattle.std.proofs.Common.{◌≡◌, ◌<◌, ℕ, length}
use Rattle.cell_join_tiles.specs.Values.{values_of_tile_borders}
use Rattle.cell_join_tiles.specs.parts.RowMarks.{border_of_tile_in_row}
use Rattle.cell_join_tiles.proofs.tile_rows.common_row_count_of_tiles.Given as goal

abbrev pub invariant-loop-col : goal.invariant-loop-col
invariant-loop-col l = (c : ℕ) → c < l.col → length (border_of_tile_in_row (values_of_tile_borders l.row) c).begun
    ≡ l.rows
