-- How rules change a table: cells that get the same category are counted together, and no cell is lost.
use Rattle.std.specs.Prelude.{ℕ, ℤ, ◌≡◌, ◌↔◌, false, List, [], ◌∷◌, Some, None, All, Contains, filter, sum_by, slice_get}
use Rattle.std.specs.Ordering.{eq_by_cmp}
use Rattle.cell_core.specs.Grid.{Grid}
use Rattle.cell_cats.specs.Rule.{RuleValue, lists, is_star_rule, new_category}
use Rattle.cell_cats.specs.Reclass.{reclassed_map}
use Rattle.cell_stats_combinations.specs.declared.skip.Skip.{Skip}
use Rattle.cell_stats_combinations.specs.declared.skip.Skip.TheVariants.{Nothing}
use Rattle.cell_stats_combinations.specs.Combinations.{Combination, combination_cmp, all_combinations}
use Rattle.cell_stats_combinations.specs.LeftOut.{combination_is_left_out}
use Rattle.cell_stats_counts.specs.Counts.{cell_count_of_combination}
use Rattle.cell_stats.specs.CategoryTables.{CombinationsWithCounts, IsTable}

-- null stays null; without a rule for `*`, a category that no rule lists becomes null
abbrev pub UnlistedCategoryBecomesNull : Type 0
UnlistedCategoryBecomesNull = (rules : List RuleValue)
    → (new_category rules None ≡ None)
    × ((x : ℤ) → All (λ rule. lists x rule ≡ false) rules → All (λ rule. is_star_rule rule ≡ false) rules
    → new_category rules (Some x) ≡ None)

-- the combination after its first cell was reclassified
abbrev pub combination_with_first_reclassed : List RuleValue → Combination → Combination
combination_with_first_reclassed rules [] = []
combination_with_first_reclassed rules (cell ∷ others) = new_category rules cell ∷ others

-- the entries of a table whose combinations become `to` when reclassified
abbrev pub entries_reclassed_to_combination : List RuleValue → Combination → CombinationsWithCounts
    → CombinationsWithCounts
entries_reclassed_to_combination rules to table = filter (λ pair. eq_by_cmp combination_cmp to
    (combination_with_first_reclassed rules pair.0)) table

-- two maps in the list: an original map and its reclassified map
pub record AreMapAndReclassedMap (rules : List RuleValue) (maps : List Grid) (old new : ℕ) : Type 0 where
  pub given : Grid
  pub first : slice_get maps old ≡ Some given
  pub second : slice_get maps new ≡ Some (reclassed_map rules given)

-- for any other maps, each count for the new map is the sum of the counts of the old combinations that are reclassified
-- to the counted combination
abbrev pub ReclassedCountsAreSums : Type 0
ReclassedCountsAreSums = (rules : List RuleValue) (maps : List Grid) (old new : ℕ)
    → AreMapAndReclassedMap rules maps old new
    → (others : List ℕ) (rows cols : ℕ) (skip : Skip) (table : CombinationsWithCounts)
    → IsTable skip (all_combinations maps (old ∷ others) rows cols) table → (to : Combination)
    → combination_is_left_out skip to ≡ false
    → cell_count_of_combination to (all_combinations maps (new ∷ others) rows cols)
    ≡ sum_by (λ pair. pair.1) (entries_reclassed_to_combination rules to table)
