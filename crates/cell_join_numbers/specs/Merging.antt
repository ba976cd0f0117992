-- Merged tables, and merges of merges.
use Rattle.std.specs.Prelude.{◌≡◌, List, All, map, flat_map, sum_by}
use Rattle.std.specs.List.Sorted.{IsStrictlySortedBy}
use Rattle.cell_stats_combinations.specs.Combinations.{Combination, combination_cmp}
use Rattle.cell_stats_combinations.specs.Listed.{NoEntryCountIsZero, listed_count_of_combination}
use Rattle.cell_stats.specs.CategoryTables.{CombinationsWithCounts}
use Rattle.cell_join_numbers.specs.TableParts.{IsMergeOfTables}

-- entries as tables list them: combinations in strictly ascending order, without counts of 0
pub record AreAscendingNonzeroEntries (pairs : CombinationsWithCounts) : Type 0 where
  pub ascending : IsStrictlySortedBy combination_cmp (map (λ pair. pair.0) pairs)
  pub no_zero : NoEntryCountIsZero pairs

-- entries are the merge of tables if each combination has the sum of its counts
abbrev pub SummedCountsAreTheMerge : Type 0
SummedCountsAreTheMerge = (tables : List CombinationsWithCounts) → All AreAscendingNonzeroEntries tables
    → (sums : CombinationsWithCounts) → AreAscendingNonzeroEntries sums
    → ((k : Combination) → listed_count_of_combination k sums ≡ sum_by (listed_count_of_combination k) tables)
    → IsMergeOfTables tables sums

-- a group of tables, and their merge
pub record TableGroupWithMerge : Type 0 where
  pub tables : List CombinationsWithCounts
  pub merged : CombinationsWithCounts

-- merging the merges of groups of tables gives the merge of all tables
abbrev pub MergingInGroupsIsMergingAll : Type 0
MergingInGroupsIsMergingAll = (groups : List TableGroupWithMerge) → All (λ group. IsMergeOfTables group.tables group.merged) groups → (pairs : CombinationsWithCounts) → IsMergeOfTables (map (λ group. group.merged) groups) pairs → IsMergeOfTables (flat_map (λ group. group.tables) groups) pairs
