use Rattle.std.proofs.Common.{◌≡◌, ℕ, List, Option, map, take, length, get_or, refl, ap, sym, ◌∙◌, arith, subst}
use Rattle.std.proofs.lemmas.List.{length-append, map-append, take_all}
use Rattle.std.proofs.lemmas.List.FromFn.{length-range_with_len}
use Rattle.cell_join_tiles.specs.declared.run_lines.UnfinishedConsecutiveClumps.{UnfinishedConsecutiveClumps}
use Rattle.cell_join_tiles.specs.declared.spans.LabelRange.{LabelRange}
use Rattle.cell_join_tiles.specs.parts.RunLines.{ConsecutiveClumpsAreListed}
use Rattle.cell_join_tiles.specs.parts.Spans.{labels_of_ranges, labels_of_range}
use Rattle.cell_join_tiles.proofs.RunLineLemmas.{in_lines-none, in_lines-some, in_lines-start}
use Rattle.cell_join_tiles.proofs.SpanLemmas.{spans-few, spans-more}
use Rattle.cell_join_tiles.proofs.label_runs.add_consecutive_clumps_of_tile.Goals as goal

pub loop-at-init : goal.loop-at-init
loop-at-init c = record {
  clumps = refl;
  lines = λ number are. in_lines-start c.args.part c.args.runs.now.items
      (map number (labels_of_ranges (take 0 c.args.spans.now))) refl;
}

pub number_labels_of_range-requires-clause-fits : goal.number_labels_of_range-requires-clause-fits
number_labels_of_range-requires-clause-fits c = c.requires.fit.each c.loop-at.at
    (record { first = 0; count = 0 }) c.loop-at-test.true

pub number_labels_of_range-requires-clause-few : goal.number_labels_of_range-requires-clause-few
number_labels_of_range-requires-clause-few c =
    let few = spans-few c.args.spans.now c.loop-at.at (record { first = 0; count = 0 }) c.loop-at-test.true in
    omega (arith, few, c.loop-at.invariant.clumps, c.requires.fit.few)

pub loop-at-preserved : goal.loop-at-preserved
loop-at-preserved c =
    let spans = c.args.spans.now in
    let at = c.loop-at.at in
    let d : LabelRange = record { first = 0; count = 0 } in
    let span = get_or spans at d in
    let was = c.loop-at.invariant in
    let more = spans-more spans at d c.loop-at-test.true in
    let long = ap (λ (l : List ℕ). length l) more in
    record {
      clumps = omega (
        arith,
        c.in_ok-line.ensures.clumps,
        was.clumps,
        long,
        length-append
            (labels_of_ranges (take at spans)) (labels_of_range span),
        length-range_with_len span.first span.count,
      );
      lines = λ number are.
          let now = c.in_ok-line.ensures.lines number c.args.runs.now.items
          (map number (labels_of_ranges (take at spans))) are (was.lines number are) in
          subst (λ (l : List ℕ). ConsecutiveClumpsAreListed c.args.part c.args.runs.now.items l
          c.number_labels_of_range.new.runs.items c.in_ok-line.line)
          (sym (ap (map number) more ∙ map-append number (labels_of_ranges (take at spans))
          (labels_of_range span))) now;
    }

pub returns-in_ok-push : goal.returns-in_ok-push
returns-in_ok-push c = λ number are.
    let spans = c.args.spans.now in
    let part = c.args.part in
    let old = c.args.runs.now.items in
    let now = c.loop-at.runs.items in
    let all : take c.loop-at.at spans ≡ spans = take_all c.loop-at.at spans (omega (arith, c.loop-at-test.false)) in
    let in_lines : ConsecutiveClumpsAreListed part old (map number
    (labels_of_ranges spans)) now c.loop-at.line = subst (λ (s : List LabelRange). ConsecutiveClumpsAreListed part
    old (map number (labels_of_ranges s)) now c.loop-at.line) all (c.loop-at.invariant.lines number are) in
    c.in_ok-push.ensures.items ∙ in_lines-some part old (map number (labels_of_ranges spans)) now c.in-Some.line
    (subst (λ (o : Option UnfinishedConsecutiveClumps). ConsecutiveClumpsAreListed part old
    (map number (labels_of_ranges spans)) now o) c.in-Some.is in_lines)

pub returns-in_default : goal.returns-in_default
returns-in_default c = λ number are.
    let spans = c.args.spans.now in
    let part = c.args.part in
    let old = c.args.runs.now.items in
    let now = c.loop-at.runs.items in
    let all : take c.loop-at.at spans ≡ spans = take_all c.loop-at.at spans (omega (arith, c.loop-at-test.false)) in
    let in_lines : ConsecutiveClumpsAreListed part old (map number
    (labels_of_ranges spans)) now c.loop-at.line = subst (λ (s : List LabelRange). ConsecutiveClumpsAreListed part
    old (map number (labels_of_ranges s)) now c.loop-at.line) all (c.loop-at.invariant.lines number are) in
    in_lines-none part old (map number (labels_of_ranges spans)) now
    (subst (λ (o : Option UnfinishedConsecutiveClumps). ConsecutiveClumpsAreListed part old
    (map number (labels_of_ranges spans)) now o) c.in_default.is in_lines)
