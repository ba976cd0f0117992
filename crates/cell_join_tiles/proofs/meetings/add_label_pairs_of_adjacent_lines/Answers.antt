use Rattle.std.proofs.Common.{◌≡◌, ℕ, length, arith, subst, sym}
use Rattle.std.specs.Prelude.{flat_map}
use Rattle.std.specs.List.{range_with_len}
use Rattle.cell_join_tiles.specs.SeamLines.{label_pairs_of_opposite_cells}
use Rattle.cell_join_tiles.specs.parts.RowMarks.{AddsLabelPairs}
use Rattle.cell_join_tiles.proofs.AddsLemmas.{adds-none, adds-then}
use Rattle.cell_join_tiles.proofs.MeetingLemmas.{places-more}
use Rattle.cell_join_tiles.proofs.meetings.add_label_pairs_of_adjacent_lines.Goals as goal

pub loop-place-init : goal.loop-place-init
loop-place-init c = adds-none c.args.pairs.now.items

pub loop-place-preserved : goal.loop-place-preserved
loop-place-preserved c =
    let f = label_pairs_of_opposite_cells c.args.joining c.args.one.now c.args.other.now in
    let k = c.loop-place.place in
    let new = c.add_label_pairs_of_opposite_cells.new.pairs.items in
    subst (AddsLabelPairs c.args.pairs.now.items new) (sym (places-more f k))
    (adds-then c.args.pairs.now.items c.loop-place.pairs.items new (flat_map f (range_with_len 0 k)) (f k) c.loop-place.invariant c.in_ok-add_label_pairs_of_opposite_cells.ensures)

pub returns : goal.returns
returns c =
    let f = label_pairs_of_opposite_cells c.args.joining c.args.one.now c.args.other.now in
    let end : c.loop-place.place ≡ length c.args.one.now = omega (arith, c.loop-place-test.false, c.loop-place.auto.place-end) in
    subst (λ (n : ℕ). AddsLabelPairs c.args.pairs.now.items c.loop-place.pairs.items (flat_map f (range_with_len 0 n))) end c.loop-place.invariant
