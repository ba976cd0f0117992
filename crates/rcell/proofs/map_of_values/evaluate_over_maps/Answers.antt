use Rattle.std.proofs.Common.{sym, ◌≡◌, ◌<◌, ◌+◌, ℕ, ◌∷◌, [], None, length, ap, ◌∙◌, length-append}
use Rattle.std.specs.Prelude.{slice_index_or, slice_get}
use Rattle.cell_calc_language.specs.Applied.{grid_position}
use Rattle.cell_calc_language.specs.Reach.{rows_read_above_by_formula, rows_read_below_by_formula}
use Rattle.cell_calc_language.specs.Value.{value}
use Rattle.rcell.specs.parts.WindowsSet.{maps_at_places}
use Rattle.rcell.proofs.WindowLemmas.{written, set_over, set_reach, rows_more, room_left, all_rows, row_made}
use Rattle.cell_core.specs.Grid.{cell_at}
use borrow.Author.Count.{falls}
use Rattle.rcell.proofs.map_of_values.evaluate_over_maps.Goals as goal

pub loop-row-preserved : goal.loop-row-preserved
loop-row-preserved c =
    let pushed = c.in_ok-push_row.ensures.ok in
    let cells = c.loop-row.cells in
    let windows = c.loop-row.windows in
    let held = c.loop-row.invariant in
    let row = c.loop-row.row in
    let new = c.eval_row.new.cells in
    let bound = c.args.bound.now in
    let maps = maps_at_places c.args.places.now c.args.maps.now in
    let region = c.args.region in
    let below = rw c.rows-row-end.ensures.value at c.loop-row-test.true in
    let width = c.eval_row.auto.cells ∙ ap (λ l. length l) c.as_mut_slice.ensures.value in
    let same = written cells.len new cells.items cells.ok.0 width in
    let many = c.advance_row_windows.auto.windows ∙ ap (λ l. length l) c.as_mut_slice-in-loop-row.ensures.value in
    let moved = written windows.len c.advance_row_windows.new.windows windows.items windows.ok.0 many in
    let found = c.in_ok-eval_row.ensures.ok in
    record {
      region = ap (λ b. b.region) pushed ∙ held.region;
      count = ap (λ b. length b.rows) pushed ∙ length-append c.loop-row.builder.rows (c.as_slice-in-loop-row.result.now ∷ []) ∙ ap (λ n. n + 1) held.count;
      width = rw same (width ∙ held.width);
      windows = rw moved (many ∙ held.windows);
      set = rw moved (λ left. rw c.advance_row_windows.auto.windows (c.advance_row_windows.ensures left));
      cells = λ r k lr lk. rw (ap (λ b. b.rows) pushed)
          (rows_more (λ r l. (k : ℕ) → k < region.cols → slice_index_or l k None ≡ value bound maps (grid_position region r k)) c.loop-row.builder.rows c.as_slice-in-loop-row.result.now row
          held.count (λ r lt k lk. held.cells r k lt lk)
          (λ k lk. ap (λ l. slice_index_or l k None) (c.as_slice-in-loop-row.ensures.value ∙ same)
          ∙ found maps (λ i li. rw c.as_slice.ensures.value (set_over row (rows_read_above_by_formula i bound) (rows_read_below_by_formula i bound) (slice_get windows.items i) (slice_get maps i) (held.set below i (rw held.windows li)))) k lk)
          r lr k lk);
    }

pub eval_row-requires-clause-row : goal.eval_row-requires-clause-row
eval_row-requires-clause-row c = rw c.rows-row-end.ensures.value at c.loop-row-test.true

pub eval_row-requires-clause-width : goal.eval_row-requires-clause-width
eval_row-requires-clause-width c =
    ap (λ l. length l) c.as_mut_slice.ensures.value ∙ c.loop-row.invariant.width

pub eval_row-requires-clause-windows : goal.eval_row-requires-clause-windows
eval_row-requires-clause-windows c =
    let held = c.loop-row.invariant in
    let bound = c.args.bound.now in
    let maps = maps_at_places c.args.places.now c.args.maps.now in
    let below = rw c.rows-row-end.ensures.value at c.loop-row-test.true in
    λ i lt. rw c.as_slice.ensures.value
    (set_reach c.loop-row.row (rows_read_above_by_formula i bound) (rows_read_below_by_formula i bound) (slice_get c.loop-row.windows.items i) (slice_get maps i)
    (held.set below i (rw held.windows lt)))

pub push_row-requires-clause-width : goal.push_row-requires-clause-width
push_row-requires-clause-width c =
    let cells = c.loop-row.cells in
    let width = c.eval_row.auto.cells ∙ ap (λ l. length l) c.as_mut_slice.ensures.value in
    let same = written cells.len c.eval_row.new.cells cells.items cells.ok.0 width in
    ap (λ l. length l) (c.as_slice-in-loop-row.ensures.value ∙ same) ∙ width ∙ c.loop-row.invariant.width ∙ ap (λ r. r.cols) (sym c.loop-row.invariant.region)

pub push_row-requires-clause-room : goal.push_row-requires-clause-room
push_row-requires-clause-room c =
    room_left c.loop-row.invariant.count c.loop-row-test.true
    (c.rows-row-end.ensures.value ∙ ap (λ r. r.rows) (sym c.loop-row.invariant.region))

pub advance_row_windows-requires-clause-count : goal.advance_row_windows-requires-clause-count
advance_row_windows-requires-clause-count c =
    ap (λ l. length l) c.as_mut_slice-in-loop-row.ensures.value ∙ c.loop-row.invariant.windows ∙ c.requires.places

pub advance_row_windows-requires-clause-set : goal.advance_row_windows-requires-clause-set
advance_row_windows-requires-clause-set c =
    let below = rw c.rows-row-end.ensures.value at c.loop-row-test.true in
    rw c.as_mut_slice-in-loop-row.ensures.value (c.loop-row.invariant.set below)

pub loop-row-smaller : goal.loop-row-smaller
loop-row-smaller c = falls _ _ c.loop-row-test.true

pub finish-requires : goal.finish-requires
finish-requires c =
    all_rows c.loop-row.invariant.count c.loop-row-test.false c.loop-row.auto.row-end
    (c.rows-row-end.ensures.value ∙ ap (λ r. r.rows) (sym c.loop-row.invariant.region))

pub returns : goal.returns
returns c = record {
  region = ap (λ m. m.region) c.finish.ensures ∙ c.loop-row.invariant.region;
  labels = ap (λ m. m.labels) c.finish.ensures;
  cells = λ r k lr lk. ap (λ m. cell_at m r k) c.finish.ensures
      ∙ c.loop-row.invariant.cells r k (row_made lr c.rows-row-end.ensures.value c.loop-row-test.false) lk;
}
