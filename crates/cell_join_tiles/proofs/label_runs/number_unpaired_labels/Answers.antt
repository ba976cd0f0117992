use Rattle.std.proofs.Common.{◌+◌, ◌-◌, ◌++◌, ℕ, List, Option, ap, ◌∙◌, arith}
use Rattle.std.specs.List.{range_with_len}
use Rattle.std.proofs.lemmas.Grind.{get_or_default_zero}
use Rattle.cell_join_numbers.specs.declared.stretch.ConsecutiveClumps.{ConsecutiveClumps}
use Rattle.cell_join_numbers.proofs.PlaceLemmas.{few-before}
use Rattle.cell_join_tiles.specs.declared.run_lines.UnfinishedConsecutiveClumps.{UnfinishedConsecutiveClumps}
use Rattle.cell_join_tiles.specs.parts.RunLines.{ConsecutiveClumpsAreListed}
use Rattle.cell_join_tiles.specs.parts.LabelRuns.{AddsConsecutiveClumpsOfLabels}
use Rattle.cell_join_tiles.specs.parts.Spans.{labels_of_range}
use Rattle.cell_join_tiles.proofs.RunLemmas.{few-roots, goes-run, if-ok, lone-run, roots-inside}
use Rattle.cell_join_tiles.proofs.label_runs.number_unpaired_labels.Goals as goal

pub overflow_sub-first : goal.overflow_sub-first
overflow_sub-first c = omega (arith, few-before c.args.sparse.now.paired.items c.requires.ready.in_order c.args.span.first, c.requires.before)

pub overflow_add-first-2 : goal.overflow_add-first-2
overflow_add-first-2 c =
    let s = c.args.sparse.now in
    let few = few-roots s.paired.items s.numbers.items s.roots.items c.requires.ready c.args.span.first c.args.place c.requires.before in
    let inside = roots-inside s.paired.items s.numbers.items s.roots.items c.requires.ready c.args.span.first c.args.place c.requires.before in
    let value = c.index.ensures ∙ get_or_default_zero s.roots.items c.args.place c.index.result.now inside in
    record { fits = omega (arith, few, value, c.requires.fits, c.if-span-eq0.false, few-before s.paired.items c.requires.ready.in_order c.args.span.first, c.requires.before) }

pub overflow_add-run : goal.overflow_add-run
overflow_add-run c =
    let s = c.args.sparse.now in
    let few = few-roots s.paired.items s.numbers.items s.roots.items c.requires.ready c.args.span.first c.args.place c.requires.before in
    let inside = roots-inside s.paired.items s.numbers.items s.roots.items c.requires.ready c.args.span.first c.args.place c.requires.before in
    let value = c.index.ensures ∙ get_or_default_zero s.roots.items c.args.place c.index.result.now inside in
    record { fits = omega (arith, few, value, c.requires.fits, c.if-span-eq0.false, few-before s.paired.items c.requires.ready.in_order c.args.span.first, c.requires.before) }

pub returns-clause-lines : goal.returns-clause-lines
returns-clause-lines c =
    let s = c.args.sparse.now in
    let span = c.args.span in
    let old = c.args.runs.now.items in
    let new = c.extend_or_begin_clump_run.new.stretches.items in
    let inside = roots-inside s.paired.items s.numbers.items s.roots.items c.requires.ready span.first c.args.place c.requires.before in
    let value = c.index.ensures ∙ get_or_default_zero s.roots.items c.args.place c.index.result.now inside in
    let first = span.first - c.args.place + c.index.result.now + 1 in
    if-ok c.extend_or_begin_clump_run.result
    (λ (after : Option UnfinishedConsecutiveClumps). (before : List ConsecutiveClumps) (numbers : List ℕ) → ConsecutiveClumpsAreListed c.args.part before numbers old c.args.line → ConsecutiveClumpsAreListed c.args.part before (numbers ++ range_with_len first span.count) new after)
    (AddsConsecutiveClumpsOfLabels s c.args.part c.args.line old new (labels_of_range span))
    c.extend_or_begin_clump_run.ensures.lines
    (λ after step. goes-run s c.args.part c.args.line after old new (labels_of_range span) first span.count
    (λ number are. ap (λ (n : ℕ). range_with_len (span.first - c.args.place + n + 1) span.count) value ∙ lone-run number s.paired.items s.numbers.items s.roots.items c.requires.ready.in_order are span.first span.count c.args.place c.requires.before c.requires.after)
    step)
