use Rattle.std.proofs.Common.{None, ◌++◌, ◌+◌, get_or, sym, subst}
use Rattle.cell_clumps.specs.declared.clump.Joining.{Joining}
use Rattle.cell_clumps.specs.declared.clump.Joining.TheVariants.{EdgesAndCorners}
use Rattle.cell_join_tiles.specs.SeamLines.{label_pair_of_equal_cells, label_pairs_of_opposite_cells}
use Rattle.cell_join_tiles.specs.parts.RowMarks.{AddsLabelPairs}
use Rattle.cell_join_tiles.proofs.AddsLemmas.{adds-then, edges-only}
use Rattle.cell_join_tiles.proofs.meetings.add_label_pairs_of_opposite_cells.Goals as goal

pub returns-in_ok-add_label_pair_of_equal_cells-3 : goal.returns-in_ok-add_label_pair_of_equal_cells-3
returns-in_ok-add_label_pair_of_equal_cells-3 c =
    let one = c.args.one.now in
    let other = c.args.other.now in
    let k = c.args.place in
    let old = c.args.pairs.now.items in
    let a = c.add_label_pair_of_equal_cells.new.pairs.items in
    let b = c.add_label_pair_of_equal_cells-in-EdgesAndCorners.new.pairs.items in
    let new = c.add_label_pair_of_equal_cells-in-EdgesAndCorners-2.new.pairs.items in
    let first = subst (AddsLabelPairs old a) (λ i. label_pair_of_equal_cells (c.labelled_category_at_place.ensures i)
    (c.labelled_category_at_place-2.ensures i)) c.in_ok-add_label_pair_of_equal_cells.ensures in
    let second = subst (AddsLabelPairs a b) (λ i. label_pair_of_equal_cells
    (c.labelled_category_at_place-in-EdgesAndCorners.ensures i)
    (c.labelled_category_at_place-in-EdgesAndCorners-2.ensures i)) c.in_ok-add_label_pair_of_equal_cells-2.ensures in
    let third = subst (AddsLabelPairs b new) (λ i. label_pair_of_equal_cells
    (c.labelled_category_at_place-in-EdgesAndCorners-3.ensures i)
    (c.labelled_category_at_place-in-EdgesAndCorners-4.ensures i)) c.in_ok-add_label_pair_of_equal_cells-3.ensures in
    let here = label_pair_of_equal_cells (get_or one k None) (get_or other k None) in
    let right = label_pair_of_equal_cells (get_or one k None) (get_or other (k + 1) None) in
    let left = label_pair_of_equal_cells (get_or one (k + 1) None) (get_or other k None) in
    let all : AddsLabelPairs old new (label_pairs_of_opposite_cells EdgesAndCorners one other k) = adds-then old b new
    (here ++ right) left (adds-then old a b here right first second) third in
    subst (λ (j : Joining). AddsLabelPairs old new (label_pairs_of_opposite_cells j one other k))
    (sym c.in-EdgesAndCorners.is) all

pub returns-in_default : goal.returns-in_default
returns-in_default c =
    let one = c.args.one.now in
    let other = c.args.other.now in
    let k = c.args.place in
    let old = c.args.pairs.now.items in
    let new = c.add_label_pair_of_equal_cells.new.pairs.items in
    let first : AddsLabelPairs old new (label_pair_of_equal_cells (get_or one k None) (get_or other k None)) = subst
    (AddsLabelPairs old new) (λ i. label_pair_of_equal_cells (c.labelled_category_at_place.ensures i)
    (c.labelled_category_at_place-2.ensures i)) c.in_ok-add_label_pair_of_equal_cells.ensures in
    edges-only c.args.joining one other k old new c.in_default.not-EdgesAndCorners first
