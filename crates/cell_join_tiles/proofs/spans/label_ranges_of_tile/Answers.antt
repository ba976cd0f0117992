use Rattle.std.proofs.Common.{◌++◌, [], ℕ, List, length, ap, sym, ◌∙◌, arith}
use Rattle.std.specs.Prelude.{sum}
use Rattle.std.proofs.lemmas.List.FromFn.{length-map-range_with_len}
use Rattle.cell_join_tiles.specs.declared.spans.LabelRange.{LabelRange}
use Rattle.cell_join_tiles.specs.parts.RowLabels.{label_of_clump_from_first_labels}
use Rattle.cell_join_tiles.specs.parts.Spans.{LabelRangeFitsInSixtyFourBits, labels_of_ranges}
use Rattle.cell_join_tiles.proofs.RowLabelLemmas.{all-labels, lists-more, row_labels}
use Rattle.cell_join_tiles.proofs.SpanLemmas.{all-pushed, spans-pushed}
use Rattle.cell_join_tiles.proofs.spans.label_ranges_of_tile.Goals as goal

pub loop-row-init : goal.loop-row-init
loop-row-init c = record {
  from = omega arith;
  each = let none = c.new-spans.ensures.items in λ i d lt. absurd (let long = ap (λ (l : List LabelRange). length l) none in omega (arith, lt, long));
  labels = ap (λ (l : List LabelRange). labels_of_ranges l ++ []) c.new-spans.ensures.items;
}

pub loop-row-preserved : goal.loop-row-preserved
loop-row-preserved c =
    let f = row_labels c.args.firsts.now c.args.begun.now in
    let was = c.loop-row.invariant in
    record {
      from = c.in_ok-from.ensures.from;
      each = c.in_ok-from.ensures.each;
      labels = c.in_ok-from.ensures.labels ∙ ap (λ (l : List ℕ). l ++ f c.loop-row.row) was.labels ∙ sym (lists-more f c.loop-row.row);
    }

pub returns-clause-labels : goal.returns-clause-labels
returns-clause-labels c =
    let was = c.loop-row.invariant in
    ap labels_of_ranges c.in_ok-push.ensures.items ∙ spans-pushed c.loop-row.spans.items c.loop-row.from ∙ was.labels ∙ all-labels c.args.firsts.now c.args.begun.now c.loop-row.row (omega arith)

pub returns-clause-fit : goal.returns-clause-fit
returns-clause-fit c =
    let was = c.loop-row.invariant in
    let all = ap labels_of_ranges c.in_ok-push.ensures.items ∙ spans-pushed c.loop-row.spans.items c.loop-row.from ∙ was.labels ∙ all-labels c.args.firsts.now c.args.begun.now c.loop-row.row (omega arith) in
    let long = ap (λ (l : List ℕ). length l) all ∙ length-map-range_with_len (label_of_clump_from_first_labels c.args.firsts.now c.args.begun.now) 0 (sum c.args.begun.now) in
    record {
      each = all-pushed LabelRangeFitsInSixtyFourBits c.loop-row.spans.items c.push.new.self.items c.loop-row.from c.in_ok-push.ensures.items was.each was.from;
      few = omega (arith, long, c.requires.few);
    }
