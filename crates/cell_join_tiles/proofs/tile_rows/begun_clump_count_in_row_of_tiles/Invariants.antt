use Rattle.std.proofs.Common.{◌≡◌, take}
use Rattle.cell_join_tiles.specs.Values.{values_of_tile_borders}
use Rattle.cell_join_tiles.specs.parts.RowLabels.{begun_clump_count_in_all_tiles}
use Rattle.cell_join_tiles.specs.parts.RowMarks.{begun_clump_counts_of_tile_row}
use Rattle.cell_join_tiles.proofs.tile_rows.begun_clump_count_in_row_of_tiles.Given as goal

abbrev pub invariant-loop-col : goal.invariant-loop-col
invariant-loop-col l = l.all ≡ begun_clump_count_in_all_tiles
    (take l.col (begun_clump_counts_of_tile_row (values_of_tile_borders l.tiles))) l.row
