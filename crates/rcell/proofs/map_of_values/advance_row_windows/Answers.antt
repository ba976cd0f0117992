use Rattle.std.proofs.Common.{sym, ap, ◌∙◌, ◌+◌}
use borrow.Author.Count.{falls}
use Rattle.rcell.specs.parts.WindowsSet.{maps_at_places}
use Rattle.cell_calc_language.specs.Reach.{rows_read_above_by_formula, rows_read_below_by_formula}
use Rattle.rcell.proofs.WindowLemmas.{set_read, moved_set, moved_rest, row_below, no_row, below_same, below_all, least}
use Rattle.rcell.proofs.map_of_values.advance_row_windows.Goals as goal

pub returns-then-row-rows : goal.returns-then-row-rows
returns-then-row-rows c =
    λ left _ _. absurd (no_row c.args.row c.rows.ensures.value c.if-row-rows.true left)

pub bounds-windows-i : goal.bounds-windows-i
bounds-windows-i c = below_same c.loop-i-test.true (sym c.loop-i.auto.windows)

pub map_at_listed_place-requires-clause-place : goal.map_at_listed_place-requires-clause-place
map_at_listed_place-requires-clause-place c = below_same c.loop-i-test.true c.requires.count

pub advance-requires-clause-window : goal.advance-requires-clause-window
advance-requires-clause-window c =
    let at = c.loop-i in
    let bound = c.args.bound.now in
    let set = set_read c.args.row (rows_read_above_by_formula at.i bound)
    (rows_read_below_by_formula at.i bound) at.i at.windows c.args.windows.now c.index-windows-i.result
    (maps_at_places c.args.places.now c.args.maps.now) c.map_at_listed_place.result.now
    (below_same c.loop-i-test.true (sym at.auto.windows))
    (at.invariant.rest at.i (least at.i)) c.map_at_listed_place.ensures.value
    (c.requires.set at.i c.loop-i-test.true) in
    set.1.1.1

pub advance-requires-clause-left : goal.advance-requires-clause-left
advance-requires-clause-left c =
    let at = c.loop-i in
    let bound = c.args.bound.now in
    let set = set_read c.args.row (rows_read_above_by_formula at.i bound)
    (rows_read_below_by_formula at.i bound) at.i at.windows c.args.windows.now c.index-windows-i.result
    (maps_at_places c.args.places.now c.args.maps.now) c.map_at_listed_place.result.now
    (below_same c.loop-i-test.true (sym at.auto.windows))
    (at.invariant.rest at.i (least at.i)) c.map_at_listed_place.ensures.value
    (c.requires.set at.i c.loop-i-test.true) in
    row_below set.0 set.1.1.1.rows (ap (λ r. r.rows) (c.map_at_listed_place.ensures.region c.args.region
    c.requires.regions)) c.rows.ensures.value
    c.if-row-rows.false

pub loop-i-smaller : goal.loop-i-smaller
loop-i-smaller c = falls _ _ c.loop-i-test.true

pub loop-i-preserved : goal.loop-i-preserved
loop-i-preserved c =
    let at = c.loop-i in
    let bound = c.args.bound.now in
    let maps = maps_at_places c.args.places.now c.args.maps.now in
    let old = c.index-windows-i.result in
    let new = c.advance.new.self in
    let moved = c.advance.ensures in
    let within = below_same c.loop-i-test.true (sym at.auto.windows) in
    let set = set_read c.args.row (rows_read_above_by_formula at.i bound)
    (rows_read_below_by_formula at.i bound) at.i at.windows c.args.windows.now old
    maps c.map_at_listed_place.result.now within
    (at.invariant.rest at.i (least at.i)) c.map_at_listed_place.ensures.value
    (c.requires.set at.i c.loop-i-test.true) in
    record {
      done = moved_set bound c.args.row at.i at.windows maps new c.map_at_listed_place.result.now within
          at.invariant.done c.map_at_listed_place.ensures.value
          (moved.centre ∙ ap (λ n. n + 1) set.0, (moved.reach.0 ∙ set.1.0, (moved.reach.1 ∙ set.1.1.0, moved.window)));
      rest = moved_rest at.windows c.args.windows.now at.i new at.invariant.rest;
    }

pub returns : goal.returns
returns c = λ _ i lt. c.loop-i.invariant.done i (below_all lt c.loop-i-test.false)
