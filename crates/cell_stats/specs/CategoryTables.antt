-- The table of the combinations that occur, with their counts (r.stats manual).
use Rattle.std.specs.Prelude.{ℕ, ◌≡◌, ◌<◌, ◌↔◌, false, List, map, filter}
use Rattle.std.specs.FinMap as finmap
use Rattle.std.specs.List.{Contains}
use Rattle.std.specs.List.Sorted.{IsStrictlySortedBy}
use Rattle.std.specs.Ordering.{is_lt}
use Rattle.cell_stats_combinations.specs.declared.skip.Skip.{Skip}
use Rattle.cell_stats_combinations.specs.Combinations.{Combination, combination_cmp}
use Rattle.cell_stats_counts.specs.Counts.{cell_count_of_combination}
use Rattle.cell_stats_combinations.specs.LeftOut.{combination_is_left_out, kept_cells}

-- combinations with their counts
abbrev pub CombinationsWithCounts : Type 0
CombinationsWithCounts = List (Combination × ℕ)

-- combinations are in strictly ascending order; a combination has the count n if and only if it is not left out and n
-- cells have it, and n is above 0
pub record IsTable (skip : Skip) (cells : List Combination) (pairs : CombinationsWithCounts) : Type 0 where
  pub ascending : IsStrictlySortedBy combination_cmp (map (λ pair. pair.0) pairs)
  pub counted : (k : Combination) (n : ℕ) → Contains pairs (k, n) ↔ ((combination_is_left_out skip k ≡ false) × ((0 < n) × (n ≡ cell_count_of_combination k cells)))

-- each combination that occurs with its count, in ascending order
unfoldable pub combination_counts : List Combination → CombinationsWithCounts
combination_counts cells = finmap.entries (finmap.from_entries {R = combination_cmp}
    (map (λ k. (k, cell_count_of_combination k cells)) cells))

-- the table of the cells
abbrev pub table_of_cells : Skip → List Combination → CombinationsWithCounts
table_of_cells skip cells = combination_counts (kept_cells skip cells)

-- the entries of a table after a combination
abbrev pub entries_after_combination : Combination → CombinationsWithCounts → CombinationsWithCounts
entries_after_combination k pairs = filter (λ pair. is_lt (combination_cmp k pair.0)) pairs

-- a table and its number of maps
pub record TableValue : Type 0 where
  pub width : ℕ
  pub pairs : CombinationsWithCounts
