use Rattle.std.proofs.Common.{rules, ◌≡◌, ◌∙◌, ◌∷◌, List, [], All, length, ap, sym, subst, arith}
use Rattle.std.proofs.lemmas.List.Elements.{All-head, All-tail}
use Rattle.std.specs.Vec.Iter.{into_iter_items}
use Rattle.cell_join_tiles.specs.Values.{TileBorderValue, values_of_tile_borders}
use Rattle.cell_join_tiles.specs.JoinedTiles.{AreConsecutiveClumpsOfTiles, IsClumpCountOfTileGrid}
use Rattle.rcell_pipe_borders.specs.BorderGrids.{borders_as_values}
use Rattle.rcell_pipe_borders.specs.parts.RowCounts.{TilesHaveSameRowCount}
use Rattle.rcell_pipe_borders.proofs.NumberingLemmas.{if-ok, none-left, so-all, so-few, so-more}
use Rattle.rcell_pipe_borders.proofs.numbering.number_patches_of_tiles.Goals as goal

pub loop-row-init : goal.loop-row-init
loop-row-init c =
    let left = into_iter_items c.into_iter-row-iterator.result in
    let items : left ≡ c.args.grid.items = search rules in
    record {
      so = record { done = []; whole = ap borders_as_values (sym items); joined = c.new-joiner.ensures.none };
      joining = c.new-joiner.ensures.joining;
      even = subst (λ l. All TilesHaveSameRowCount (borders_as_values l)) (sym items) c.requires.even;
      len = search rules;
    }

pub join_tile_row-requires-clause-even : goal.join_tile_row-requires-clause-even
join_tile_row-requires-clause-even c =
    All-head TilesHaveSameRowCount (values_of_tile_borders c.in-Some.row.items)
    (borders_as_values (into_iter_items c.next.new.self))
    (subst (All TilesHaveSameRowCount) (ap borders_as_values c.in-Some.ensures.steps.0) c.loop-row.invariant.even)

pub join_tile_row-requires-clause-few : goal.join_tile_row-requires-clause-few
join_tile_row-requires-clause-few c =
    so-few (borders_as_values c.args.grid.items) (borders_as_values (into_iter_items c.loop-row.row-iterator))
    (borders_as_values (into_iter_items c.next.new.self)) (values_of_tile_borders c.in-Some.row.items) c.loop-row.joiner
    c.loop-row.invariant.so (ap borders_as_values c.in-Some.ensures.steps.0) c.requires.few

pub loop-row-preserved : goal.loop-row-preserved
loop-row-preserved c =
    let at = c.loop-row in
    let left = into_iter_items c.next.new.self in
    let is = c.in-Some.ensures.steps.0 in
    let short = ap (λ l. length l) is in
    record {
      so = so-more (borders_as_values c.args.grid.items) (borders_as_values (into_iter_items at.row-iterator))
          (borders_as_values left)
          (values_of_tile_borders c.in-Some.row.items) at.joiner c.in_ok-joiner.joiner at.invariant.so
          (ap borders_as_values is)
          c.in_ok-joiner.ensures.joined;
      joining = c.in_ok-joiner.ensures.joining ∙ at.invariant.joining;
      even = All-tail TilesHaveSameRowCount (values_of_tile_borders c.in-Some.row.items) (borders_as_values left)
          (subst (All TilesHaveSameRowCount) (ap borders_as_values is) at.invariant.even);
      len = let was = at.invariant.len in omega arith;
    }

pub returns-clause-runs : goal.returns-clause-runs
returns-clause-runs c =
    let grid = borders_as_values c.args.grid.items in
    let none : into_iter_items c.loop-row.row-iterator ≡ [] =
    none-left (into_iter_items c.loop-row.row-iterator)
    (sym c.loop-row.invariant.len ∙ c.in-None.ensures.steps.0) in
    let all = so-all grid (borders_as_values (into_iter_items c.loop-row.row-iterator)) c.loop-row.joiner
    c.loop-row.invariant.so (ap borders_as_values none) in
    if-ok _ (λ joined. AreConsecutiveClumpsOfTiles c.args.joining grid joined.runs.items) c.finish.result
    (λ joined runs. rw c.loop-row.invariant.joining at (runs grid all)) c.finish.ensures.runs

pub returns-clause-clumps : goal.returns-clause-clumps
returns-clause-clumps c =
    let grid = borders_as_values c.args.grid.items in
    let none : into_iter_items c.loop-row.row-iterator ≡ [] =
    none-left (into_iter_items c.loop-row.row-iterator)
    (sym c.loop-row.invariant.len ∙ c.in-None.ensures.steps.0) in
    let all = so-all grid (borders_as_values (into_iter_items c.loop-row.row-iterator)) c.loop-row.joiner
    c.loop-row.invariant.so (ap borders_as_values none) in
    if-ok _ (λ joined. IsClumpCountOfTileGrid c.args.joining grid joined.clumps) c.finish.result
    (λ joined clumps.
    subst (λ j. IsClumpCountOfTileGrid j grid joined.clumps) c.loop-row.invariant.joining
    (clumps grid all)) c.finish.ensures.clumps
