use Rattle.std.proofs.Common.{◌<◌, ◌+◌, ◌++◌, ℕ, List, Option, length, get_or, ap, ◌∙◌, arith}
use Rattle.std.specs.List.{range_with_len}
use Rattle.std.proofs.lemmas.Grind.{get_or_default_zero}
use Rattle.cell_join_numbers.specs.declared.stretch.ConsecutiveClumps.{ConsecutiveClumps}
use Rattle.cell_join_tiles.specs.declared.run_lines.UnfinishedConsecutiveClumps.{UnfinishedConsecutiveClumps}
use Rattle.cell_join_tiles.specs.parts.RunLines.{ConsecutiveClumpsAreListed}
use Rattle.cell_join_tiles.specs.parts.LabelRuns.{AddsConsecutiveClumpsOfLabels}
use Rattle.cell_join_tiles.proofs.RunLemmas.{goes-run, if-ok, paired-run}
use Rattle.cell_join_tiles.proofs.label_runs.number_paired_label.Goals as goal

pub returns-clause-lines : goal.returns-clause-lines
returns-clause-lines c =
    let s = c.args.sparse.now in
    let place = c.args.place in
    let old = c.args.runs.now.items in
    let new = c.extend_or_begin_clump_run.new.stretches.items in
    let inside : place < length s.numbers.items = omega (arith, c.requires.inside, c.requires.ready.long) in
    let value = c.index.ensures ∙ get_or_default_zero s.numbers.items place c.index.result.now inside in
    let labels = range_with_len (get_or s.paired.items place 0) 1 in
    if-ok c.extend_or_begin_clump_run.result
    (λ (after : Option UnfinishedConsecutiveClumps). (before : List ConsecutiveClumps) (numbers : List ℕ) → ConsecutiveClumpsAreListed c.args.part before numbers old c.args.line → ConsecutiveClumpsAreListed c.args.part before (numbers ++ range_with_len (c.index.result.now + 1) 1) new after)
    (AddsConsecutiveClumpsOfLabels s c.args.part c.args.line old new labels)
    c.extend_or_begin_clump_run.ensures.lines
    (λ after step. goes-run s c.args.part c.args.line after old new labels (c.index.result.now + 1) 1
    (λ number are. ap (λ (n : ℕ). range_with_len (n + 1) 1) value ∙ paired-run number s.paired.items s.numbers.items s.roots.items are place c.requires.inside)
    step)
