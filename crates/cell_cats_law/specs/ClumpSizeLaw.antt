-- Clumps and their categories: the clumps of a category divide its cells.
use Rattle.std.specs.Prelude.{ℕ, ℤ, pos, ◌-◌, ◌≡◌, ◌≢◌, ◌≤◌, ◌<◌, ◌↔◌, List, [], ◌∷◌, Some, None, IsSome, Contains}
use Rattle.std.specs.Prelude.{filter, sum_by, take, if◌then◌else◌}
use Rattle.std.specs.Ordering.{eq_by_cmp}
use Rattle.cell_core_values.specs.Cell.{cell_eq}
use Rattle.cell_core.specs.Grid.{Grid, CellValue, RowsFillRegion}
use Rattle.cell_clumps.specs.declared.clump.Joining.{Joining}
use Rattle.cell_clumps.specs.Clumps.{Position, cell_at_position, IsClumpMapOf}
use Rattle.cell_clumps.specs.ClumpLaw.{NumberOccursInMap}
use Rattle.cell_stats_combinations.specs.declared.skip.Skip.{Skip}
use Rattle.cell_stats_combinations.specs.Combinations.{Combination, combination_cmp, all_combinations}
use Rattle.cell_stats_counts.specs.Counts.{cell_count_of_combination}
use Rattle.cell_stats.specs.CategoryTables.{CombinationsWithCounts, IsTable}

-- the cells of one map, and the cell pairs of two maps
abbrev pub one_cell_combinations : Grid → (rows cols : ℕ) → List Combination
one_cell_combinations m rows cols = all_combinations (m ∷ []) (0 ∷ []) rows cols

abbrev pub cell_pairs_of_maps : Grid → Grid → (rows cols : ℕ) → List Combination
cell_pairs_of_maps m numbers rows cols = all_combinations (m ∷ numbers ∷ []) (0 ∷ 1 ∷ []) rows cols

-- in the table of a map and its clump map, the count of each entry is the number of cells in the clump
abbrev pub EntryCountsAreClumpSizes : Type 0
EntryCountsAreClumpSizes = (j : Joining) (m numbers : Grid) → IsClumpMapOf j m numbers
    → (skip : Skip) (rows cols : ℕ) (table : CombinationsWithCounts)
    → IsTable skip (cell_pairs_of_maps m numbers rows cols) table
    → (category number : CellValue) (n : ℕ) → Contains table (category ∷ number ∷ [], n)
    → n ≡ cell_count_of_combination (number ∷ []) (one_cell_combinations numbers rows cols)

-- the entries of a category
abbrev pub entries_of_category : ℤ → CombinationsWithCounts → CombinationsWithCounts
entries_of_category category table =
    filter (λ pair. eq_by_cmp combination_cmp (Some category ∷ []) (take 1 pair.0)) table

-- the counts of a category's clumps add up to the count of the category
abbrev pub ClumpCountsSumToCategory : Type 0
ClumpCountsSumToCategory = (j : Joining) (m numbers : Grid) → IsClumpMapOf j m numbers
    → (skip : Skip) (rows cols : ℕ) (table : CombinationsWithCounts)
    → IsTable skip (cell_pairs_of_maps m numbers rows cols) table
    → (category : ℤ)
    → sum_by (λ pair. pair.1) (entries_of_category category table) ≡ cell_count_of_combination (Some category
    ∷ []) (one_cell_combinations m rows cols)

-- no clump is empty: if a number occurs in the table, all smaller numbers from 1 up also occur, with counts above 0
abbrev pub NoClumpIsEmpty : Type 0
NoClumpIsEmpty = (j : Joining) (m numbers : Grid) → IsClumpMapOf j m numbers
    → RowsFillRegion numbers.region numbers.rows
    → (skip : Skip) (table : CombinationsWithCounts)
    → IsTable skip (cell_pairs_of_maps m numbers numbers.region.rows numbers.region.cols) table
    → (category : CellValue) (last size : ℕ) → Contains table (category ∷ Some (pos last) ∷ [], size)
    → (number : ℕ) → 1 ≤ number → number ≤ last
    → (other : ℤ) × (cells : ℕ) × (0 < cells) × Contains table (Some other ∷ Some (pos number) ∷ [], cells)

-- `less` is the map m with one clump set to null
abbrev pub IsMapWithoutClump : Grid → Grid → ℤ → Grid → Type 0
IsMapWithoutClump m numbers number less = (p : Position)
    → cell_at_position less p ≡ (if cell_eq (cell_at_position numbers p)
    (Some number) then None else cell_at_position m p)

-- setting one clump to null changes no other clump: any two other cells are in the same clump if and only if they were
-- before
abbrev pub RemovingClumpKeepsOthers : Type 0
RemovingClumpKeepsOthers = (j : Joining) (m numbers : Grid) → IsClumpMapOf j m numbers
    → (number : ℤ) (less renumbered : Grid) → IsMapWithoutClump m numbers number less → IsClumpMapOf j less renumbered
    → (p q : Position) → IsSome (cell_at_position less p) → IsSome (cell_at_position less q)
    → (cell_at_position renumbered p ≡ cell_at_position renumbered q)
    ↔ (cell_at_position numbers p ≡ cell_at_position numbers q)
