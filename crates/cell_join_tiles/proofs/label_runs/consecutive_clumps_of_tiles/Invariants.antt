use Rattle.std.proofs.Common.{◌≡◌, ◌++◌, ◌+◌, ℕ, drop}
use Rattle.cell_join_numbers.specs.SparseNumbers.{AreNumbersOfLabels}
use Rattle.cell_join_tiles.specs.parts.LabelRuns.{consecutive_clumps_by_labels}
use Rattle.cell_join_tiles.specs.parts.Spans.{labels_of_tile_ranges}
use Rattle.cell_join_tiles.proofs.label_runs.consecutive_clumps_of_tiles.Given as goal

abbrev pub invariant-loop-tile : goal.invariant-loop-tile
invariant-loop-tile l = (number : ℕ → ℕ) → AreNumbersOfLabels number l.sparse.paired.items l.sparse.numbers.items
    l.sparse.roots.items
    → l.runs.items ++ consecutive_clumps_by_labels number (l.tile + 1) (labels_of_tile_ranges (drop l.tile l.tiles))
    ≡ consecutive_clumps_by_labels number 1 (labels_of_tile_ranges l.tiles)
