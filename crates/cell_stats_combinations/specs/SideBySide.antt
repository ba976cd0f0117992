-- Combinations that are stored side by side, and the number of cells with each combination.
use Rattle.std.specs.Prelude.{ℕ, ◌≡◌, ◌+◌, ◌*◌, List, [], ◌∷◌, length, take, drop, cond}
use Rattle.cell_core.specs.Grid.{CellValue}
use Rattle.cell_stats_combinations.specs.declared.gathered.CountedCombinations.{CountedCombinations}
use Rattle.cell_stats_combinations.specs.Combinations.{Combination}
use Rattle.cell_stats_combinations.specs.Listed.{CombinationCounts, listed_count_of_combination}
use Rattle.cell_stats_combinations.specs.parts.Same.{are_same_combination}

-- combinations of `width` maps in one list, each with its count
abbrev pub counted_combinations_of_flat_list : ℕ → List CellValue → List ℕ → CombinationCounts
counted_combinations_of_flat_list width cells [] = []
counted_combinations_of_flat_list width cells (n ∷ counts) = (take width cells, n)
    ∷ counted_combinations_of_flat_list width (drop width cells) counts

-- the number of cells of a combination that are counted side by side
abbrev pub count_of_counted_combination : ℕ → Combination → CountedCombinations → ℕ
count_of_counted_combination width k t = listed_count_of_combination k
    (counted_combinations_of_flat_list width t.cells.items t.counts.items)

-- there is one combination for each count
abbrev pub HasOneCombinationPerCount : ℕ → CountedCombinations → Type 0
HasOneCombinationPerCount width t = length t.cells.items ≡ length t.counts.items * width

-- the given number of additional cells of a combination are counted, and no additional cells of others
abbrev pub CountsMoreOfOneCombination : Combination → ℕ → CountedCombinations → CountedCombinations → Type 0
CountsMoreOfOneCombination key count t u = (k : Combination) → count_of_counted_combination (length key) k u ≡ count_of_counted_combination (length key) k t + cond (are_same_combination k key) count 0
