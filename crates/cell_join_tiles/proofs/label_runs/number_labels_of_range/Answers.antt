use Rattle.std.proofs.Common.{◌≡◌, ◌<◌, ◌+◌, ◌-◌, ◌++◌, ℕ, List, Option, length, get_or, ap, sym, ◌∙◌, arith, subst}
use Rattle.std.specs.List.{AllPairs, range_with_len}
use Rattle.cell_join_numbers.specs.SparseLabels.{paired_label_count_before_label}
use Rattle.cell_join_numbers.proofs.SearchLemmas.{before-end}
use Rattle.cell_join_tiles.specs.declared.run_lines.UnfinishedConsecutiveClumps.{UnfinishedConsecutiveClumps}
use Rattle.cell_join_tiles.specs.parts.RunLines.{clump_count_up_to_unfinished_run}
use Rattle.cell_join_tiles.specs.parts.LabelRuns.{AddsConsecutiveClumpsOfLabels}
use Rattle.cell_join_tiles.specs.parts.Spans.{labels_of_range}
use Rattle.cell_join_tiles.proofs.RowLabelLemmas.{range-joined}
use Rattle.cell_join_tiles.proofs.RunLemmas.{goes-then, goes-nowhere, if-ok}
use Rattle.cell_join_tiles.proofs.label_runs.number_labels_of_range.Goals as goal

pub place_in_paired_labels-requires : goal.place_in_paired_labels-requires
place_in_paired_labels-requires c = subst (λ (ps : List ℕ). AllPairs ◌<◌ ps)
    (sym c.as_slice-paired.ensures.value) c.requires.ready.in_order

pub labels-init : goal.labels-init
labels-init c =
    let first = c.args.span.first in
    let none : first - first ≡ 0 = omega arith in
    record {
      at = sym (c.place_in_paired_labels.ensures ∙ ap (λ (ps : List ℕ). paired_label_count_before_label ps first)
          c.as_slice-paired.ensures.value);
      from = omega arith;
      to = omega arith;
      clumps = omega arith;
      lines = goes-nowhere c.args.sparse.now c.args.part c.args.line c.args.runs.now.items
          (range_with_len first (first - first)) (ap (range_with_len first) none);
    }

pub number_labels_up_to_next_paired-requires-clause-inside : goal.number_labels_up_to_next_paired-requires-clause-inside
number_labels_up_to_next_paired-requires-clause-inside c =
    let next = c.has_paired_label_before_end.ensures.0 c.labels-test.true in
    let long = ap (length {A = ℕ}) c.as_slice-paired.ensures.value in
    omega (arith, next.0, long)

pub number_labels_up_to_next_paired-requires-clause-fits : goal.number_labels_up_to_next_paired-requires-clause-fits
number_labels_up_to_next_paired-requires-clause-fits c =
    let next = c.has_paired_label_before_end.ensures.0 c.labels-test.true in
    let same = ap (λ (ps : List ℕ). get_or ps c.labels.walk.place 0) c.as_slice-paired.ensures.value in
    omega (arith, next.1, same, c.requires.fits)

pub number_labels_up_to_next_paired-requires-clause-few : goal.number_labels_up_to_next_paired-requires-clause-few
number_labels_up_to_next_paired-requires-clause-few c =
    let was = c.labels.invariant in
    let next = c.has_paired_label_before_end.ensures.0 c.labels-test.true in
    let same = ap (λ (ps : List ℕ). get_or ps c.labels.walk.place 0) c.as_slice-paired.ensures.value in
    omega (arith, next.1, same, was.clumps, was.from, was.to, c.requires.few)

pub labels-preserved : goal.labels-preserved
labels-preserved c =
    let was = c.labels.invariant in
    let s = c.args.sparse.now in
    let first = c.args.span.first in
    let walk = c.labels.walk in
    let after = c.in_ok-walk.walk in
    let on : walk.label < after.label = c.in_ok-walk.ensures.on in
    let next = c.has_paired_label_before_end.ensures.0 c.labels-test.true in
    let same = ap (λ (ps : List ℕ). get_or ps walk.place 0) c.as_slice-paired.ensures.value in
    let old = c.args.runs.now.items in
    let mid = c.labels.runs.items in
    let new = c.number_labels_up_to_next_paired.new.runs.items in
    let one = range_with_len first (walk.label - first) in
    let other = range_with_len walk.label (after.label - walk.label) in
    let many : (walk.label - first) + (after.label - walk.label) ≡ after.label - first = omega (arith, was.from, on) in
    let all : one ++ other ≡ range_with_len first (after.label - first) =
    range-joined first (walk.label - first) (after.label - walk.label) walk.label (omega (arith, was.from))
    ∙ ap (range_with_len first) many in
    record {
      at = c.in_ok-walk.ensures.at;
      from = omega (arith, was.from, on);
      to = omega (arith, next.1, same, c.in_ok-walk.ensures.label);
      clumps = omega (arith, was.clumps, was.from, on, c.in_ok-walk.ensures.clumps);
      lines = subst (λ (labels : List ℕ). AddsConsecutiveClumpsOfLabels s c.args.part c.args.line old new labels
          after.line) all
          (goes-then s c.args.part c.args.line walk.line after.line old mid new one other was.lines
          c.in_ok-walk.ensures.lines);
    }

pub number_unpaired_labels-requires-clause-after : goal.number_unpaired_labels-requires-clause-after
number_unpaired_labels-requires-clause-after c =
    let was = c.labels.invariant in
    let paired = c.args.sparse.now.paired.items in
    let walk = c.labels.walk in
    let end = c.args.span.first + c.args.span.count in
    let e : walk.label + (end - walk.label) ≡ end = omega (arith, was.to) in
    let value : c.as_slice-paired.result.now ≡ paired = c.as_slice-paired.ensures.value in
    let long = ap (length {A = ℕ}) value in
    let same = ap (λ (ps : List ℕ). get_or ps walk.place 0) value in
    ap (paired_label_count_before_label paired) e ∙ before-end paired c.requires.ready.in_order walk.label walk.place
    end was.at
    was.to
    (λ both. absurd (let yes' = c.has_paired_label_before_end.ensures.1 (
      omega (arith, both.0, long),
      omega
          (arith, both.1, same),
    ) in let no' = c.labels-test.false in cc))

pub number_unpaired_labels-requires-clause-fits : goal.number_unpaired_labels-requires-clause-fits
number_unpaired_labels-requires-clause-fits c = let was = c.labels.invariant in omega (arith, was.to, c.requires.fits)

pub number_unpaired_labels-requires-clause-few : goal.number_unpaired_labels-requires-clause-few
number_unpaired_labels-requires-clause-few c = let was = c.labels.invariant in omega
    (arith, was.to, was.from, was.clumps, c.requires.few)

pub returns-clause-lines : goal.returns-clause-lines
returns-clause-lines c =
    let was = c.labels.invariant in
    let s = c.args.sparse.now in
    let first = c.args.span.first in
    let end = first + c.args.span.count in
    let walk = c.labels.walk in
    let old = c.args.runs.now.items in
    let mid = c.labels.runs.items in
    let new = c.number_unpaired_labels.new.runs.items in
    let one = range_with_len first (walk.label - first) in
    let other = range_with_len walk.label (end - walk.label) in
    let many : (walk.label - first) + (end - walk.label) ≡ c.args.span.count = omega (arith, was.from, was.to) in
    let all : one ++ other ≡ labels_of_range c.args.span =
    range-joined first (walk.label - first) (end - walk.label) walk.label (omega (arith, was.from))
    ∙ ap (range_with_len first) many in
    if-ok c.number_unpaired_labels.result
    (AddsConsecutiveClumpsOfLabels s c.args.part walk.line mid new other)
    (AddsConsecutiveClumpsOfLabels s c.args.part c.args.line old new (labels_of_range c.args.span))
    c.number_unpaired_labels.ensures.lines
    (λ after step. subst (λ (labels : List ℕ). AddsConsecutiveClumpsOfLabels s c.args.part c.args.line old new labels
    after) all (goes-then s c.args.part c.args.line walk.line after old mid new one other was.lines step))

pub returns-clause-clumps : goal.returns-clause-clumps
returns-clause-clumps c =
    let was = c.labels.invariant in
    let first = c.args.span.first in
    let end = first + c.args.span.count in
    let walk = c.labels.walk in
    if-ok c.number_unpaired_labels.result
    (λ (after : Option UnfinishedConsecutiveClumps). clump_count_up_to_unfinished_run after
    ≡ clump_count_up_to_unfinished_run walk.line + (end - walk.label))
    (λ (after : Option UnfinishedConsecutiveClumps). clump_count_up_to_unfinished_run after
    ≡ clump_count_up_to_unfinished_run c.args.line + c.args.span.count)
    c.number_unpaired_labels.ensures.clumps
    (λ after is. omega (arith, is, was.clumps, was.from, was.to))
