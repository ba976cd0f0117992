use Rattle.std.proofs.Common.{◌++◌, Vec, ap, ◌∙◌, subst}
use Rattle.std.specs.Prelude.{sum}
use Rattle.std.specs.Global.{Global}
use Rattle.cell_join_tiles.specs.declared.spans.LabelRange.{LabelRange}
use Rattle.cell_join_tiles.specs.SeamLines.{UnfinishedConsecutiveClumps, label_pairs_of_adjacent_lines}
use Rattle.cell_join_tiles.specs.Values.{value_of_tile_side}
use Rattle.cell_join_tiles.specs.parts.RowLabels.{label_of_clump_from_first_labels}
use Rattle.cell_join_tiles.specs.parts.RowMarks.{AddsLabelPairs, labelled_categories_of_side}
use Rattle.cell_join_tiles.specs.parts.Spans.{LabelRangesFitInSixtyFourBits}
use Rattle.cell_join_tiles.proofs.SpanLemmas.{all-pushed}
use Rattle.cell_join_tiles.proofs.tile_rows.join_tile_to_left_tiles.Goals as goal

pub returns-clause-pairs : goal.returns-clause-pairs
returns-clause-pairs c =
    let firsts = c.args.firsts.now in
    let side = value_of_tile_side c.args.tile.now.left in
    let begun = c.as_slice-begun.ensures.value in
    let before = c.deref-2.ensures.value in
    let left = c.deref-3.ensures.value ∙ c.in_ok-add_labelled_categories_of_side.ensures
    ∙ ap (λ (l : UnfinishedConsecutiveClumps). l ++ labelled_categories_of_side
    (label_of_clump_from_first_labels firsts c.as_slice-begun.result.now)
    (sum c.as_slice-begun.result.now) side) c.new-left.ensures.items
    ∙ (λ i. labelled_categories_of_side (label_of_clump_from_first_labels firsts (begun i)) (sum (begun i)) side) in
    subst (AddsLabelPairs c.args.from.pairs.items c.add_label_pairs_of_adjacent_lines.new.pairs.items)
    (λ i. label_pairs_of_adjacent_lines c.args.joining (before i)
    (left i)) c.in_ok-add_label_pairs_of_adjacent_lines.ensures

pub returns-clause-fit : goal.returns-clause-fit
returns-clause-fit c =
    all-pushed (λ (v : Vec LabelRange Global). LabelRangesFitInSixtyFourBits v.items) c.args.from.tiles.items
    c.push.new.self.items c.in_ok-label_ranges_of_tile.field-0 c.in_ok-push.ensures.items c.requires.fit
    c.in_ok-label_ranges_of_tile.ensures.fit
