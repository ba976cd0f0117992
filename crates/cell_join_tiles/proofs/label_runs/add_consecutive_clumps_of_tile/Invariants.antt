use Rattle.std.proofs.Common.{◌≡◌, ℕ, map, take, length}
use Rattle.cell_join_numbers.specs.SparseNumbers.{AreNumbersOfLabels}
use Rattle.cell_join_tiles.specs.parts.RunLines.{ConsecutiveClumpsAreListed, clump_count_up_to_unfinished_run}
use Rattle.cell_join_tiles.specs.parts.Spans.{labels_of_ranges}
use Rattle.cell_join_tiles.proofs.label_runs.add_consecutive_clumps_of_tile.Given as goal

abbrev pub invariant-loop-at : goal.invariant-loop-at
invariant-loop-at l = record {
  clumps : clump_count_up_to_unfinished_run l.line ≡ length (labels_of_ranges (take l.at l.spans));
  lines : (number : ℕ → ℕ) → AreNumbersOfLabels number l.sparse.paired.items l.sparse.numbers.items
      l.sparse.roots.items → ConsecutiveClumpsAreListed l.part l.fn.runs.items
      (map number (labels_of_ranges (take l.at l.spans))) l.runs.items l.line;
}
