use Rattle.std.proofs.Common.{◌++◌, ℕ, List, ap, sym, ◌∙◌, append_assoc}
use Rattle.cell_join_tiles.specs.parts.Spans.{labels_of_ranges, labels_of_range}
use Rattle.cell_join_tiles.proofs.RowLabelLemmas.{range-joined}
use Rattle.cell_join_tiles.proofs.spans.extend_or_finish_label_range.Goals as goal

pub returns-then-from-next-clause-labels : goal.returns-then-from-next-clause-labels
returns-then-from-next-clause-labels c =
    let old = labels_of_ranges c.args.spans.now.items in
    let from = c.args.from in
    let next = c.args.next in
    ap (λ (l : List ℕ). old ++ l) (sym (range-joined from.first from.count next.count next.first c.if-from-next.true))
    ∙ sym (append_assoc old (labels_of_range from) (labels_of_range next))
