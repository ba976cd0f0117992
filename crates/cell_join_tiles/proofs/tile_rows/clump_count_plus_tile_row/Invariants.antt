use Rattle.std.proofs.Common.{◌≡◌, ◌+◌, take}
use Rattle.cell_join_tiles.specs.Beginnings.{clump_count_of_tile_row}
use Rattle.cell_join_tiles.specs.Values.{values_of_tile_borders}
use Rattle.cell_join_tiles.specs.parts.RowMarks.{begun_clump_counts_of_tile_row}
use Rattle.cell_join_tiles.proofs.tile_rows.clump_count_plus_tile_row.Given as goal

abbrev pub invariant-loop-col : goal.invariant-loop-col
invariant-loop-col l = l.all ≡ l.clumps + clump_count_of_tile_row
    (take l.col (begun_clump_counts_of_tile_row (values_of_tile_borders l.row)))
