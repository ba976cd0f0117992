use Rattle.std.proofs.Common.{◌≡◌, ◌+◌, ◌-◌, ◌++◌, ℕ, List, get_or, refl, ap, ◌∙◌, arith, subst}
use Rattle.std.specs.List.{range_with_len}
use Rattle.std.proofs.lemmas.Grind.{get_or_default_zero}
use Rattle.cell_join_numbers.specs.SparseLabels.{paired_label_count_before_label}
use Rattle.cell_join_numbers.proofs.PlaceLemmas.{place-is}
use Rattle.cell_join_numbers.proofs.SearchLemmas.{before-next, label-above}
use Rattle.cell_join_tiles.specs.parts.LabelRuns.{AddsConsecutiveClumpsOfLabels}
use Rattle.cell_join_tiles.proofs.RowLabelLemmas.{range-joined}
use Rattle.cell_join_tiles.proofs.RunLemmas.{goes-then}
use Rattle.cell_join_tiles.proofs.label_runs.number_labels_up_to_next_paired.Goals as goal

pub overflow_sub-span : goal.overflow_sub-span
overflow_sub-span c =
    let paired = c.args.sparse.now.paired.items in
    let value = c.index-label.ensures ∙ get_or_default_zero paired c.args.from.place c.index-label.result.now c.requires.inside in
    omega (arith, value, label-above paired c.requires.ready.in_order c.args.from.label c.args.from.place c.requires.at c.requires.inside)

pub number_unpaired_labels-requires-clause-after : goal.number_unpaired_labels-requires-clause-after
number_unpaired_labels-requires-clause-after c =
    let paired = c.args.sparse.now.paired.items in
    let value = c.index-label.ensures ∙ get_or_default_zero paired c.args.from.place c.index-label.result.now c.requires.inside in
    let on = label-above paired c.requires.ready.in_order c.args.from.label c.args.from.place c.requires.at c.requires.inside in
    let there : c.args.from.label + (c.index-label.result.now - c.args.from.label) ≡ get_or paired c.args.from.place 0 = omega (arith, value, on) in
    ap (paired_label_count_before_label paired) there ∙ place-is paired c.requires.ready.in_order c.args.from.place 0
    c.requires.inside

pub number_paired_label-requires-clause-few : goal.number_paired_label-requires-clause-few
number_paired_label-requires-clause-few c =
    let paired = c.args.sparse.now.paired.items in
    let value = c.index-label.ensures ∙ get_or_default_zero paired c.args.from.place c.index-label.result.now c.requires.inside in
    let on = label-above paired c.requires.ready.in_order c.args.from.label c.args.from.place c.requires.at c.requires.inside in
    omega (arith, value, on, c.in_ok-line.ensures.clumps, c.requires.few)

pub returns-clause-on : goal.returns-clause-on
returns-clause-on c =
    let paired = c.args.sparse.now.paired.items in
    let value = c.index-label.ensures ∙ get_or_default_zero paired c.args.from.place c.index-label.result.now c.requires.inside in
    omega (arith, value, label-above paired c.requires.ready.in_order c.args.from.label c.args.from.place c.requires.at c.requires.inside)

pub returns-clause-at : goal.returns-clause-at
returns-clause-at c =
    let paired = c.args.sparse.now.paired.items in
    let value = c.index-label.ensures ∙ get_or_default_zero paired c.args.from.place c.index-label.result.now c.requires.inside in
    ap (λ (n : ℕ). paired_label_count_before_label paired (n + 1)) value ∙ before-next paired c.requires.ready.in_order c.args.from.place (get_or paired c.args.from.place 0) c.requires.inside refl

pub returns-clause-clumps : goal.returns-clause-clumps
returns-clause-clumps c =
    let paired = c.args.sparse.now.paired.items in
    let value = c.index-label.ensures ∙ get_or_default_zero paired c.args.from.place c.index-label.result.now c.requires.inside in
    let on = label-above paired c.requires.ready.in_order c.args.from.label c.args.from.place c.requires.at c.requires.inside in
    omega (arith, value, on, c.in_ok-line.ensures.clumps, c.in_ok-line-2.ensures.clumps)

pub returns-clause-lines : goal.returns-clause-lines
returns-clause-lines c =
    let s = c.args.sparse.now in
    let paired = s.paired.items in
    let from = c.args.from in
    let label = c.index-label.result.now in
    let value = c.index-label.ensures ∙ get_or_default_zero paired from.place label c.requires.inside in
    let on = label-above paired c.requires.ready.in_order from.label from.place c.requires.at c.requires.inside in
    let old = c.args.runs.now.items in
    let mid = c.number_unpaired_labels.new.runs.items in
    let new = c.number_paired_label.new.runs.items in
    let one = range_with_len from.label (label - from.label) in
    let other = range_with_len (get_or paired from.place 0) 1 in
    let many : (label - from.label) + 1 ≡ label + 1 - from.label = omega (arith, value, on) in
    let all : one ++ other ≡ range_with_len from.label (label + 1 - from.label) =
    range-joined from.label (label - from.label) 1 (get_or paired from.place 0) (omega (arith, value, on)) ∙ ap (range_with_len from.label) many in
    let both = goes-then s c.args.part from.line c.in_ok-line.line c.in_ok-line-2.line old mid new one other c.in_ok-line.ensures.lines c.in_ok-line-2.ensures.lines in
    subst (λ (labels : List ℕ). AddsConsecutiveClumpsOfLabels s c.args.part from.line old new labels
    c.in_ok-line-2.line) all both
