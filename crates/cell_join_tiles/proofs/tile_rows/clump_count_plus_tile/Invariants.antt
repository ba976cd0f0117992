use Rattle.std.proofs.Common.{◌≡◌, ◌+◌}
use Rattle.cell_join_tiles.specs.Beginnings.{begun_clump_count_before_row}
use Rattle.cell_join_tiles.proofs.tile_rows.clump_count_plus_tile.Given as goal

abbrev pub invariant-loop-row : goal.invariant-loop-row
invariant-loop-row l = l.all ≡ l.clumps + begun_clump_count_before_row l.begun l.row
