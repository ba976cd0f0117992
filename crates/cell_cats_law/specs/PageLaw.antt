-- Pages of a table: its entries up to a combination, and its entries after it.
use Rattle.std.specs.Prelude.{ℕ, ◌≡◌, true, List, ◌∷◌, ◌++◌, filter}
use Rattle.std.specs.Ordering.{is_le}
use Rattle.cell_stats_combinations.specs.declared.skip.Skip.{Skip}
use Rattle.cell_stats_combinations.specs.Combinations.{Combination, combination_cmp}
use Rattle.cell_stats.specs.CategoryTables.{CombinationsWithCounts, IsTable, entries_after_combination}

-- the entries up to and including a combination
abbrev pub entries_up_to_combination : Combination → CombinationsWithCounts → CombinationsWithCounts
entries_up_to_combination k pairs = filter (λ pair. is_le (combination_cmp pair.0 k)) pairs

-- the entries of a table up to a combination, followed by the entries after it, are the table
abbrev pub TableSplitsAtCombination : Type 0
TableSplitsAtCombination = (skip : Skip) (cells : List Combination) (table : CombinationsWithCounts)
    → IsTable skip cells table
    → (k : Combination) → entries_up_to_combination k table ++ entries_after_combination k table ≡ table

-- the rest of a table after an entry's combination is the entries after that entry
abbrev pub RestOfTableIsLaterEntries : Type 0
RestOfTableIsLaterEntries = (skip : Skip) (cells : List Combination) (page rest : CombinationsWithCounts)
    (last : Combination × ℕ)
    → IsTable skip cells (page ++ last ∷ rest) → entries_after_combination last.0 (page ++ last ∷ rest) ≡ rest
