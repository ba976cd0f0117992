-- The table of clump numbers lists the clump sizes.
use Rattle.std.specs.Prelude.{ℕ, zero, suc, pos, not, ◌+◌, ◌≡◌, ◌↔◌, List, [], ◌∷◌, ◌++◌, map, filter}
use Rattle.std.specs.Prelude.{Some, None, if◌then◌else◌}
use Rattle.cell_core.specs.Grid.{Grid, RowsFillRegion}
use Rattle.cell_clumps.specs.declared.clump.Joining.{Joining}
use Rattle.cell_clumps.specs.Clumps.{IsClumpMapOf}
use Rattle.cell_stats_combinations.specs.declared.skip.Skip.{Skip}
use Rattle.cell_stats_combinations.specs.declared.skip.Skip.TheVariants.{AnyNull}
use Rattle.cell_stats_combinations.specs.LeftOut.{combination_is_left_out}
use Rattle.cell_stats_counts.specs.Counts.{cell_count_of_combination}
use Rattle.cell_stats.specs.CategoryTables.{CombinationsWithCounts, IsTable}
use Rattle.cell_cats_law.specs.ClumpSizeLaw.{one_cell_combinations}
use Rattle.cell_join_numbers.specs.Labelled.{MapHasClumpCount}
use Rattle.cell_cats_law.specs.SizeLaw.{sizes_of_numbered_clumps}

-- entries with consecutive numbers, starting at `n`, and the sizes of their clumps
abbrev pub entries_of_clumps_from_number : ℕ → List ℕ → CombinationsWithCounts
entries_of_clumps_from_number n [] = []
entries_of_clumps_from_number n (size ∷ sizes) = (Some (pos n) ∷ [], size) ∷ entries_of_clumps_from_number (n + 1) sizes

-- the entry of null cells, if there are any and `skip` does not leave them out
abbrev pub entry_of_null : Skip → ℕ → CombinationsWithCounts
entry_of_null skip zero = []
entry_of_null skip (suc n) = if combination_is_left_out skip (None ∷ []) then [] else (None ∷ [], suc n) ∷ []

-- the entries of clumps with these sizes, numbered from 1, and then the entry of null
abbrev pub table_of_clump_sizes : Skip → List ℕ → ℕ → CombinationsWithCounts
table_of_clump_sizes skip sizes nulls = entries_of_clumps_from_number 1 sizes ++ entry_of_null skip nulls

-- the table of a clump map lists the sizes of its clumps
abbrev pub ClumpTableListsSizes : Type 0
ClumpTableListsSizes = (j : Joining) (m numbers : Grid) → IsClumpMapOf j m numbers → RowsFillRegion m.region m.rows
    → (clumps : ℕ) → MapHasClumpCount j m clumps → (skip : Skip) (table : CombinationsWithCounts)
    → IsTable skip (one_cell_combinations numbers m.region.rows m.region.cols) table
    ↔ (table ≡ table_of_clump_sizes skip (sizes_of_numbered_clumps clumps numbers m.region.rows m.region.cols)
    (cell_count_of_combination (None ∷ []) (one_cell_combinations numbers m.region.rows m.region.cols)))

-- the sizes in a table of clump numbers: its counts in order, without the count of null
abbrev pub clump_sizes_in_table : CombinationsWithCounts → List ℕ
clump_sizes_in_table table = map (λ pair. pair.1) (filter (λ pair. not (combination_is_left_out AnyNull pair.0)) table)
