use Rattle.std.proofs.Common.{◌∙◌, ◌∷◌, [], All, ap, sym, subst, arith}
use Rattle.std.proofs.lemmas.List.{map_push}
use Rattle.std.proofs.lemmas.List.Elements.{All-append, All-cons, All-nil}
use Rattle.cell_join_tiles.specs.Values.{values_of_tile_borders}
use Rattle.rcell_pipe_borders.specs.BorderGrids.{borders_as_values}
use Rattle.rcell_pipe_borders.specs.parts.RowCounts.{TilesHaveSameRowCount}
use Rattle.rcell_pipe_borders.proofs.TileLemmas.{rows-with-row}
use Rattle.rcell_pipe_borders.proofs.tiles.read_next_tile_row.Goals as goal

pub returns-clause-even : goal.returns-clause-even
returns-clause-even g c = λ all.
    let grid = c.args.grid.now.items in
    let row = values_of_tile_borders c.in-Ok.row.items in
    subst (All TilesHaveSameRowCount)
    (sym (ap borders_as_values c.in_ok-push.ensures.items ∙ map_push
    (λ row. values_of_tile_borders row.items) grid c.in-Ok.row))
    (All-append TilesHaveSameRowCount (borders_as_values grid) (row ∷ []) all
    (All-cons TilesHaveSameRowCount row [] c.in-Ok.ensures.even (All-nil TilesHaveSameRowCount)))

pub returns-clause-rows : goal.returns-clause-rows
returns-clause-rows g c =
    let more = rows-with-row _ _ _ c.in_ok-push.ensures.items in
    let own = rw c.as_slice-2.ensures.value at c.row_count_of_tiles.ensures in
    omega (arith, more, own, c.requires.rows)
