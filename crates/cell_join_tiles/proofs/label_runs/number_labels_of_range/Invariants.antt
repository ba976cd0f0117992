use Rattle.std.proofs.Common.{◌≡◌, ◌≤◌, ◌+◌, ◌-◌}
use Rattle.std.specs.List.{range_with_len}
use Rattle.cell_join_numbers.specs.SparseLabels.{paired_label_count_before_label}
use Rattle.cell_join_tiles.specs.parts.RunLines.{clump_count_up_to_unfinished_run}
use Rattle.cell_join_tiles.specs.parts.LabelRuns.{AddsConsecutiveClumpsOfLabels}
use Rattle.cell_join_tiles.proofs.label_runs.number_labels_of_range.Given as goal

abbrev pub invariant-labels : goal.invariant-labels
invariant-labels l = record {
  at : paired_label_count_before_label l.sparse.paired.items l.walk.label ≡ l.walk.place;
  from : l.fn.span.first ≤ l.walk.label;
  to : l.walk.label ≤ l.end;
  clumps : clump_count_up_to_unfinished_run l.walk.line ≡ clump_count_up_to_unfinished_run l.fn.line +
      (l.walk.label - l.fn.span.first);
  lines : AddsConsecutiveClumpsOfLabels l.sparse l.part l.fn.line l.fn.runs.items l.runs.items
      (range_with_len l.fn.span.first (l.walk.label - l.fn.span.first)) l.walk.line;
}

abbrev pub decreases-labels : goal.decreases-labels
decreases-labels l = l.end - l.walk.label
