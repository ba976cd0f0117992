use Rattle.std.proofs.Common.{◌≡◌}
use Rattle.std.specs.List.{list_all, range_with_len}
use Rattle.cell_join_tiles.specs.Values.{value_of_tile_side}
use Rattle.rcell_pipe_borders.specs.BorderChecks.{is_valid_side_cell}
use Rattle.rcell_pipe_borders.proofs.border_checks.is_valid_tile_side.Given as goal

abbrev pub invariant-loop-k : goal.invariant-loop-k
invariant-loop-k l = l.is_good ≡ list_all (is_valid_side_cell l.patches (value_of_tile_side l.side))
    (range_with_len 0 l.k)
