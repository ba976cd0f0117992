use Rattle.std.proofs.Common.{◌≡◌, ℕ, ◌<◌, ◌≤◌, List, length, get_or}
use Rattle.cell_join_numbers.specs.LabelNumbers.{root_labels_below}
use Rattle.cell_join_numbers.specs.SparseLabels.{IncludesLabelsOfPairs, IsUnionFindOfPairedLabels}
use Rattle.cell_join_numbers.specs.SparseNumbers.{FirstNodesHoldLabelNumbers}
use Rattle.cell_join_numbers.proofs.numbers.number_paired_labels.Given as goal

abbrev pub invariant-loop-place : goal.invariant-loop-place
invariant-loop-place l = record {
  long : length l.table ≡ length l.fn.table;
  ready : (k : ℕ) → l.place ≤ k → get_or l.table k 0 ≤ k;
  few : l.count ≤ l.place;
  many : length l.roots.items ≡ l.place;
  under : (k : ℕ) → k < l.place → get_or l.roots.items k 0 ≤ k;
  low : (k : ℕ) → k < l.place → get_or l.table k 0 ≤ get_or l.paired k 0;
  numbered : (labels : ℕ) (pairs : List (ℕ × ℕ)) → IncludesLabelsOfPairs labels pairs l.paired
      → IsUnionFindOfPairedLabels pairs l.paired l.fn.table → FirstNodesHoldLabelNumbers labels pairs l.paired
      l.fn.table
      l.place l.table l.count;
  roots : (k : ℕ) → k < l.place → (labels : ℕ) (pairs : List (ℕ × ℕ)) → IncludesLabelsOfPairs labels pairs l.paired
      → IsUnionFindOfPairedLabels pairs l.paired l.fn.table → get_or l.roots.items k 0
      ≡ length (root_labels_below l.fn.table k);
}
