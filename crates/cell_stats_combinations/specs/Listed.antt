-- Lists of entries: combinations, each with a number of cells.
use Rattle.std.specs.Prelude.{ℕ, ◌≡◌, ◌<◌, ◌^◌, List, All, cond, map, sum_by}
use Rattle.std.specs.List.Sorted.{IsStrictlySortedBy}
use Rattle.std.specs.Ordering.{eq_by_cmp}
use Rattle.cell_stats_combinations.specs.Combinations.{Combination, combination_cmp}

-- combinations, each with a number of cells
abbrev pub CombinationCounts : Type 0
CombinationCounts = List (Combination × ℕ)

-- the number of cells of a combination that an entry counts
abbrev pub entry_count_of_combination : Combination → Combination × ℕ → ℕ
entry_count_of_combination k entry = cond (eq_by_cmp combination_cmp k entry.0) entry.1 0

-- the number of cells of a combination that the list counts: the sum over its entries
abbrev pub listed_count_of_combination : Combination → CombinationCounts → ℕ
listed_count_of_combination k entries = sum_by (entry_count_of_combination k) entries

-- no entry has a count of 0
abbrev pub NoEntryCountIsZero : CombinationCounts → Type 0
NoEntryCountIsZero entries = All (λ entry. 0 < entry.1) entries

-- each combination is listed once, in ascending order
abbrev pub CombinationsAreAscending : CombinationCounts → Type 0
CombinationsAreAscending entries = IsStrictlySortedBy combination_cmp (map (λ entry. entry.0) entries)

-- the count of each combination fits in 64 bits
abbrev pub ListedCountsFitInSixtyFourBits : CombinationCounts → Type 0
ListedCountsFitInSixtyFourBits entries = (k : Combination) → listed_count_of_combination k entries < 2 ^ 64

-- the count of each combination is unchanged
abbrev pub ListsHaveSameCounts : CombinationCounts → CombinationCounts → Type 0
ListsHaveSameCounts old new = (k : Combination) → listed_count_of_combination k new ≡ listed_count_of_combination k old
