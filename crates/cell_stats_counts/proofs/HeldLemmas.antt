-- Counting for the same number of maps.
use Rattle.std.proofs.Common.{◌≡◌, ℕ, subst}
use Rattle.cell_stats_counts.specs.declared.counting.CombinationCounter.{CombinationCounter}
use Rattle.cell_stats_combinations.specs.Listed.{CombinationCounts}
use Rattle.cell_stats_counts.specs.parts.CountsUnderWay.{CanContinueCountingCombinations}

pub going_of : {w width : ℕ} {places : CombinationCounter} {entries : CombinationCounts} → w ≡ width
    → CanContinueCountingCombinations w places entries → CanContinueCountingCombinations width places entries
going_of {places = places} {entries = entries} same going = subst
    (λ n. CanContinueCountingCombinations n places entries) same going
