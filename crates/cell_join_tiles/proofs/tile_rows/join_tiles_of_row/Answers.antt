use Rattle.std.proofs.Common.{◌≡◌, ℕ, List, length, get_or, ap, sym, ◌∙◌, arith, subst, append-nil}
use Rattle.cell_join_tiles.specs.declared.border.TileBorder.{TileBorder}
use Rattle.cell_join_tiles.specs.Values.{values_of_tile_borders}
use Rattle.cell_join_tiles.specs.parts.RowLabels.{AreFirstLabelsOfTileInRow}
use Rattle.cell_join_tiles.specs.parts.RowMarks.{AddsLabelPairs, begun_clump_counts_of_tile_row}
use Rattle.cell_join_tiles.specs.parts.RowMarks.{label_pairs_within_tile_row}
use Rattle.cell_join_tiles.specs.parts.Spans.{labels_of_tile_ranges}
use Rattle.cell_join_tiles.proofs.AddsLemmas.{adds-none}
use Rattle.cell_join_tiles.proofs.JoinRowLemmas.{few-in, first-more, fits, last-more, pairs-more, passed, right-more, tile-long, tiles-more}
use Rattle.cell_join_tiles.proofs.tile_rows.join_tiles_of_row.Goals as goal

pub loop-col-init : goal.loop-col-init
loop-col-init c =
    let value = c.as_mut_slice-line.ensures.value in
    record {
      long = ap (λ (l : List ℕ). length l) value ∙ c.in_ok-firsts.ensures.long;
      firsts = subst (AreFirstLabelsOfTileInRow c.args.base (begun_clump_counts_of_tile_row (values_of_tile_borders c.args.row.now)) 0) (sym value) c.in_ok-firsts.ensures.each;
      pairs = adds-none c.args.from.pairs.items;
      first = c.requires.first;
      last = c.requires.last;
      right = c.requires.right;
      tiles = sym (append-nil (labels_of_tile_ranges c.args.from.tiles.items));
      fit = c.requires.fit;
    }

pub join_tile_to_left_tiles-requires-clause-long : goal.join_tile_to_left_tiles-requires-clause-long
join_tile_to_left_tiles-requires-clause-long c =
    let tile = c.index-row-col.result in
    c.loop-col.invariant.long ∙ sym (tile-long c.args.row.now c.args.base c.args.rows c.requires.even c.loop-col.col tile c.loop-col-test.true c.index-row-col.is)

pub join_tile_to_left_tiles-requires-clause-fits : goal.join_tile_to_left_tiles-requires-clause-fits
join_tile_to_left_tiles-requires-clause-fits c =
    fits c.args.row.now c.args.base c.args.rows c.requires.even c.loop-col.col c.index-row-col.result c.loop-col-test.true c.index-row-col.is c.loop-col.line c.loop-col.invariant.firsts c.loop-col.invariant.long c.requires.fits

pub join_tile_to_left_tiles-requires-clause-few : goal.join_tile_to_left_tiles-requires-clause-few
join_tile_to_left_tiles-requires-clause-few c =
    few-in c.args.row.now c.args.base c.args.rows c.requires.even c.loop-col.col c.index-row-col.result c.loop-col-test.true c.index-row-col.is c.loop-col.line c.loop-col.invariant.firsts c.loop-col.invariant.long c.requires.fits

pub advance_first_labels_to_next_tile-requires-clause-long : goal.advance_first_labels_to_next_tile-requires-clause-long
advance_first_labels_to_next_tile-requires-clause-long c =
    let tile = c.index-row-col-in-loop-col.result in
    let long = tile-long c.args.row.now c.args.base c.args.rows c.requires.even c.loop-col.col tile c.loop-col-test.true c.index-row-col-in-loop-col.is in
    c.loop-col.invariant.long ∙ sym (ap (λ (l : List ℕ). length l) (c.as_slice.ensures.value ∙ ap (λ (b : TileBorder). b.begun.items) (sym c.index-row-col-in-loop-col.is)) ∙ long)

pub advance_first_labels_to_next_tile-requires-clause-fits : goal.advance_first_labels_to_next_tile-requires-clause-fits
advance_first_labels_to_next_tile-requires-clause-fits c = λ i lt.
    let tile = c.index-row-col-in-loop-col.result in
    let value = (c.as_slice.ensures.value ∙ ap (λ (b : TileBorder). b.begun.items)
    (sym c.index-row-col-in-loop-col.is)) in
    let same = ap (λ (l : List ℕ). get_or l i 0) value in
    let long = ap (λ (l : List ℕ). length l) value in
    let most = fits c.args.row.now c.args.base c.args.rows c.requires.even c.loop-col.col tile c.loop-col-test.true c.index-row-col-in-loop-col.is c.loop-col.line c.loop-col.invariant.firsts c.loop-col.invariant.long c.requires.fits i (omega (arith, lt, long)) in
    omega (arith, most, same)

pub loop-col-preserved : goal.loop-col-preserved
loop-col-preserved c =
    let row = c.args.row.now in
    let base = c.args.base in
    let rows = c.args.rows in
    let even = c.requires.even in
    let col = c.loop-col.col in
    let lt = c.loop-col-test.true in
    let tile = c.index-row-col.result in
    let is = c.index-row-col.is in
    let other = c.index-row-col-in-loop-col.result in
    let other_is = c.index-row-col-in-loop-col.is in
    let line = c.loop-col.line in
    let was = c.loop-col.invariant in
    let now = c.in_ok-joined.ensures in
    let joined = c.in_ok-joined.joined in
    let value = (c.as_slice.ensures.value ∙ ap (λ (b : TileBorder). b.begun.items)
    (sym c.index-row-col-in-loop-col.is)) in
    record {
      long = c.advance_first_labels_to_next_tile.ensures.long ∙ was.long;
      firsts = passed row base rows even col other lt other_is line was.firsts was.long c.advance_first_labels_to_next_tile.new.line c.advance_first_labels_to_next_tile.ensures.long (λ i inside.
          let same = ap (λ (l : List ℕ). get_or l i 0) value in
          let long = ap (λ (l : List ℕ). length l) value in
          let each = c.advance_first_labels_to_next_tile.ensures.each i (omega (arith, inside, long)) in
          omega (arith, each, same));
      pairs = pairs-more row base rows even col tile lt is line was.firsts was.long c.args.joining c.args.from.pairs.items c.loop-col.joined.pairs.items joined.pairs.items c.loop-col.joined.right.items was.right was.pairs now.pairs;
      first = first-more row base rows even col tile lt is line was.firsts was.long c.loop-col.joined.first.items joined.first.items was.first now.first;
      last = last-more row base rows even col tile lt is line was.firsts was.long c.loop-col.joined.last.items joined.last.items was.last now.last;
      right = right-more row base rows even col tile lt is line was.firsts was.long joined.right.items now.right;
      tiles = tiles-more row base rows even col tile lt is line was.firsts was.long (labels_of_tile_ranges c.args.from.tiles.items) (labels_of_tile_ranges c.loop-col.joined.tiles.items) (labels_of_tile_ranges joined.tiles.items) was.tiles now.tiles;
      fit = now.fit;
    }

pub returns-clause-pairs : goal.returns-clause-pairs
returns-clause-pairs c =
    let end : c.loop-col.col ≡ length c.args.row.now = omega (arith, c.loop-col-test.false, c.loop-col.auto.col-end) in
    subst (λ (n : ℕ). AddsLabelPairs c.args.from.pairs.items c.loop-col.joined.pairs.items (label_pairs_within_tile_row c.args.joining c.args.base (values_of_tile_borders c.args.row.now) n)) end c.loop-col.invariant.pairs
