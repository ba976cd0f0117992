-- How many cells have a combination (r.stats manual, flag `-c`).
use Rattle.std.specs.Prelude.{ℕ, ◌≡◌, List, count_by}
use Rattle.std.specs.Ordering.{eq_by_cmp}
use Rattle.cell_stats_combinations.specs.Combinations.{Combination, combination_cmp}
use Rattle.cell_stats_combinations.specs.Listed.{CombinationCounts, listed_count_of_combination}
use Rattle.cell_stats_combinations.specs.Listed.{CombinationsAreAscending, NoEntryCountIsZero}

-- the number of cells that have the combination
abbrev pub cell_count_of_combination : Combination → List Combination → ℕ
cell_count_of_combination k cells = count_by (eq_by_cmp combination_cmp k) cells

-- the counts of cells: each combination that occurs among them, once and in order
pub record AreCountsOfCombinations (cells : List Combination) (entries : CombinationCounts) : Type 0 where
  pub ascending : CombinationsAreAscending entries
  pub counts : (k : Combination) → listed_count_of_combination k entries ≡ cell_count_of_combination k cells
  pub no_zero : NoEntryCountIsZero entries
