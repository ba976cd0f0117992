use Rattle.std.proofs.Common.{◌∙◌, ap, sym, subst, arith}
use Rattle.std.proofs.lemmas.List.{map_push}
use Rattle.cell_join_tiles.specs.Values.{value_of_tile_border, values_of_tile_borders}
use Rattle.rcell_pipe_borders.specs.parts.RowCounts.{TilesHaveSameRowCount}
use Rattle.rcell_pipe_borders.proofs.TileLemmas.{one-height-more, columns-with-tile, rows-with-tile}
use Rattle.rcell_pipe_borders.proofs.tiles.read_next_tile.Goals as goal

pub returns-clause-even : goal.returns-clause-even
returns-clause-even g c = λ height.
    let row = c.args.row.now.items in
    subst TilesHaveSameRowCount
    (sym (ap values_of_tile_borders c.in_ok-push.ensures.items ∙ map_push value_of_tile_border row c.in-Ok.border))
    (one-height-more (values_of_tile_borders row) (value_of_tile_border c.in-Ok.border)
    (rw c.as_slice.ensures.value at c.in-Ok.ensures.same) height)

pub returns-clause-cols : goal.returns-clause-cols
returns-clause-cols g c =
    let more = columns-with-tile _ _ _ c.in_ok-push.ensures.items in
    omega (arith, more, c.requires.cols)

pub returns-clause-few : goal.returns-clause-few
returns-clause-few g c =
    let rows = rows-with-tile _ _ _ c.in_ok-push.ensures.items (rw c.as_slice.ensures.value at c.in-Ok.ensures.same) in
    omega (arith, rows, c.in-Ok.ensures.few)
