-- The runs of tiles, given their clumps' labels.
use Rattle.std.specs.Prelude.{ℕ, ◌+◌, List, [], ◌∷◌, ◌++◌, map, Option}
use Rattle.cell_join_numbers.specs.Stretches.{consecutive_clumps_of_tile}
use Rattle.cell_join_numbers.specs.declared.stretch.ConsecutiveClumps.{ConsecutiveClumps}
use Rattle.cell_join_numbers.specs.declared.numbers.PairedLabelNumbers.{PairedLabelNumbers}
use Rattle.cell_join_numbers.specs.SparseNumbers.{AreNumbersAndRootCountsOfLabels, AreNumbersOfLabels}
use Rattle.cell_join_tiles.specs.declared.run_lines.UnfinishedConsecutiveClumps.{UnfinishedConsecutiveClumps}
use Rattle.cell_join_tiles.specs.parts.RunLines.{ConsecutiveClumpsAreListed}

abbrev pub ArePairedLabelsNumbered : PairedLabelNumbers → Type 0
ArePairedLabelsNumbered sparse = AreNumbersAndRootCountsOfLabels sparse.paired.items sparse.numbers.items
    sparse.roots.items

-- the numbers of these labels follow the numbers of a line
abbrev pub AddsConsecutiveClumpsOfLabels : PairedLabelNumbers → (part : ℕ) → Option UnfinishedConsecutiveClumps → (old new : List ConsecutiveClumps) → (labels : List ℕ) → Option UnfinishedConsecutiveClumps → Type 0
AddsConsecutiveClumpsOfLabels sparse part line old new labels after = (number : ℕ → ℕ) (before : List ConsecutiveClumps) (numbers : List ℕ) → AreNumbersOfLabels number sparse.paired.items sparse.numbers.items sparse.roots.items → ConsecutiveClumpsAreListed part before numbers old line → ConsecutiveClumpsAreListed part before (numbers ++ map number labels) new after

-- the runs of the tiles from index `part` on, whose clumps have these labels
abbrev pub consecutive_clumps_by_labels : (ℕ → ℕ) → ℕ → List (List ℕ) → List ConsecutiveClumps
consecutive_clumps_by_labels number part [] = []
consecutive_clumps_by_labels number part (labels ∷ tiles) = consecutive_clumps_of_tile part (map number labels) ++ consecutive_clumps_by_labels number (part + 1) tiles
