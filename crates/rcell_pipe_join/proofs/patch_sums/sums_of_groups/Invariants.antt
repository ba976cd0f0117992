use Rattle.std.proofs.Common.{◌≡◌, ◌++◌, ℕ, List, Option}
use Rattle.std.specs.List.{AllZip}
use Rattle.std.specs.List.Sorted.{IsStrictlySortedBy}
use Rattle.std.specs.Map.{keys_of}
use Rattle.cell_stats_combinations.specs.Listed.{CombinationCounts}
use Rattle.rcell_pipe_join.specs.PatchTables.{entries_of_numbers, number_cmp, numbers_of_entries}
use Rattle.rcell_pipe_join.specs.parts.TableCounts.{AreSumsOfGroup, Group}
use Rattle.rcell_pipe_join.proofs.patch_sums.sums_of_groups.Given as goal

abbrev pub invariant-loop-number : goal.invariant-loop-number
invariant-loop-number l = (done : List Group) × (sums : List (Option ℕ × CombinationCounts))
    × (done ++ l.number-iterator ≡ l.fn.groups.entries) × IsStrictlySortedBy number_cmp (keys_of l.fn.groups.entries)
    × AllZip AreSumsOfGroup done sums × (l.numbers.items ≡ numbers_of_entries sums)
    × (l.entries.items ≡ entries_of_numbers sums)
