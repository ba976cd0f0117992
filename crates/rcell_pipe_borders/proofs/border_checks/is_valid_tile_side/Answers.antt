use Rattle.cell_join_tiles.specs.Values.{value_of_tile_side}
use Rattle.rcell_pipe_borders.specs.BorderChecks.{is_valid_side_cell}
use Rattle.rcell_pipe_borders.proofs.SideLemmas.{all-more}
use Rattle.rcell_pipe_borders.proofs.border_checks.is_valid_tile_side.Goals as goal

pub loop-k-preserved : goal.loop-k-preserved
loop-k-preserved c =
    all-more (is_valid_side_cell c.args.patches (value_of_tile_side c.args.side.now)) c.loop-k.k c.loop-k.is_good
    c.is_valid_side_cell-is_good.result c.loop-k.invariant c.is_valid_side_cell-is_good.ensures
