-- The counts of entries, and entries by the number of their patch.
use Rattle.std.specs.Prelude.{ℕ, ◌≡◌, List, [], Option, Vec, length, map, take, unwrap_or}
use Rattle.std.specs.Global.{Global}
use Rattle.std.specs.List.{AllZip}
use Rattle.std.specs.List.Sorted.{IsStrictlySortedBy}
use Rattle.std.specs.Map.{keys_of, lookup}
use Rattle.std.specs.Option.{option_map}
use Rattle.std.specs.Ordering.{eq_by_cmp}
use Rattle.cell_stats_combinations.specs.Combinations.{Combination}
use Rattle.cell_stats_combinations.specs.Listed.{CombinationCounts, CombinationsAreAscending, ListsHaveSameCounts}
use Rattle.cell_stats_combinations.specs.Listed.{ListedCountsFitInSixtyFourBits, NoEntryCountIsZero}
use Rattle.cell_join_numbers.specs.declared.stretch.ConsecutiveClumps.{ConsecutiveClumps}
use Rattle.rcell_pipe_join.specs.PatchTables.{AreSumsOfPatchTables, TileTable, entries_of_numbers, number_cmp}
use Rattle.rcell_pipe_join.specs.PatchTables.{numbers_of_entries}

abbrev pub entry_counts : CombinationCounts → List ℕ
entry_counts entries = map (λ entry. entry.1) entries

-- the counts of the entries are the first of these counts
abbrev pub EntryCountsAreFirstCounts : List ℕ → CombinationCounts → Type 0
EntryCountsAreFirstCounts counts entries = entry_counts entries ≡ take (length entries) counts

-- no entry of the table has a count of 0
abbrev pub NoCountOfTileTableIsZero : TileTable → Type 0
NoCountOfTileTableIsZero table = NoEntryCountIsZero table.1

-- the entries of a number
abbrev pub Group : Type 0
Group = Option ℕ × Vec (Combination × ℕ) Global

-- the entries of this number
abbrev pub entries_in_groups : Option ℕ → List Group → CombinationCounts
entries_in_groups number groups = unwrap_or (option_map (λ v. v.items) (lookup (eq_by_cmp number_cmp number) groups)) []

-- no entry has a count of 0, and each sum fits in 64 bits
abbrev pub CanBeSummed : CombinationCounts → Type 0
CanBeSummed entries = ListedCountsFitInSixtyFourBits entries × NoEntryCountIsZero entries

-- the sums of the entries of a number: each combination once, in ascending order
pub record AreSumsOfGroup (group : Group) (sums : Option ℕ × CombinationCounts) : Type 0 where
  pub number : sums.0 ≡ group.0
  pub ascending : CombinationsAreAscending sums.1
  pub counts : ListsHaveSameCounts group.1.items sums.1
  pub no_zero : NoEntryCountIsZero sums.1

-- these numbers and entries are the sums of the groups, entry by entry
pub record AreListedSumsOfGroups (groups : List Group) (numbers : List (Option ℕ))
    (entries : CombinationCounts) : Type 0 where
  pub sums : List (Option ℕ × CombinationCounts)
  pub ordered : IsStrictlySortedBy number_cmp (keys_of groups)
  pub are : AllZip AreSumsOfGroup groups sums
  pub numbers_are : numbers ≡ numbers_of_entries sums
  pub entries_are : entries ≡ entries_of_numbers sums

-- these numbers and entries are the sums of patch tables, entry by entry
pub record AreListedSumsOfPatchTables (runs : List ConsecutiveClumps) (tables : List TileTable)
    (numbers : List (Option ℕ)) (entries : CombinationCounts) : Type 0 where
  pub sums : List (Option ℕ × CombinationCounts)
  pub are : AreSumsOfPatchTables runs tables sums
  pub numbers_are : numbers ≡ numbers_of_entries sums
  pub entries_are : entries ≡ entries_of_numbers sums
