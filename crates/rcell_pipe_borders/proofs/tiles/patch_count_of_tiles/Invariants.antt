use Rattle.std.proofs.Common.{◌≡◌, take}
use Rattle.cell_join_tiles.specs.Beginnings.{clump_count_of_tile_grid}
use Rattle.cell_join_tiles.specs.JoinedBorders.{begun_clump_counts_of_grid}
use Rattle.rcell_pipe_borders.specs.BorderGrids.{borders_as_values}
use Rattle.rcell_pipe_borders.proofs.tiles.patch_count_of_tiles.Given as goal

abbrev pub invariant-loop-row : goal.invariant-loop-row
invariant-loop-row l = l.patches ≡ clump_count_of_tile_grid (begun_clump_counts_of_grid
    (borders_as_values (take l.row-index l.grid)))
