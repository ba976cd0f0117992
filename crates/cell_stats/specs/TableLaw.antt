-- Laws about tables: there is exactly one, its counts add up, and a skip rule only leaves out entries.
use Rattle.std.specs.Prelude.{◌≡◌, ℕ, ◌*◌, List, [], ◌∷◌, filter, sum_by, not, None}
use Rattle.std.specs.Ordering.{eq_by_cmp}
use Rattle.cell_core.specs.Grid.{Grid}
use Rattle.cell_stats_combinations.specs.declared.skip.Skip.{Skip}
use Rattle.cell_stats_combinations.specs.declared.skip.Skip.TheVariants.{Nothing, AnyNull}
use Rattle.cell_stats_combinations.specs.Combinations.{Combination, combination_cmp, all_combinations}
use Rattle.cell_stats.specs.CategoryTables.{CombinationsWithCounts, IsTable, table_of_cells}
use Rattle.cell_stats_combinations.specs.LeftOut.{combination_is_left_out}

-- `table_of_cells` is a table of the cells, and no other list is
abbrev pub TableListsOccurringCombinations : Type 0
TableListsOccurringCombinations = (skip : Skip) (cells : List Combination) → IsTable skip cells (table_of_cells skip cells) × ((pairs : CombinationsWithCounts) → IsTable skip cells pairs → pairs ≡ table_of_cells skip cells)

-- the counts of a table that leaves nothing out add up to the number of cells
abbrev pub TableCountsAddUpToCells : Type 0
TableCountsAddUpToCells = (maps : List Grid) (picks : List ℕ) (rows cols : ℕ) → sum_by (λ pair. pair.1) (table_of_cells Nothing (all_combinations maps picks rows cols)) ≡ rows * cols

-- a table under a skip rule is the full table without the entries that the rule leaves out
abbrev pub SkipRuleLeavesOutEntries : Type 0
SkipRuleLeavesOutEntries = (skip : Skip) (cells : List Combination) → table_of_cells skip cells ≡ filter (λ pair. not (combination_is_left_out skip pair.0)) (table_of_cells Nothing cells)

-- the table of one map that leaves out null is the full table without the entry of null
abbrev pub TableLeavesOutNull : Type 0
TableLeavesOutNull = (maps : List Grid) (place rows cols : ℕ) → table_of_cells AnyNull (all_combinations maps (place ∷ []) rows cols) ≡ filter (λ pair. not (eq_by_cmp combination_cmp (None ∷ []) pair.0)) (table_of_cells Nothing (all_combinations maps (place ∷ []) rows cols))
