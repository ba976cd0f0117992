-- The clump sizes of a map: the number of cells with each clump number.
use Rattle.std.specs.Prelude.{ℕ, pos, List, [], ◌∷◌, map, Some}
use Rattle.std.specs.List.{range_with_len}
use Rattle.cell_core.specs.Grid.{Grid}
use Rattle.cell_stats_counts.specs.Counts.{cell_count_of_combination}
use Rattle.cell_cats_law.specs.ClumpSizeLaw.{one_cell_combinations}

-- the number of cells with the number `n`, among the first `rows` × `cols` cells of a map of numbers
abbrev pub cell_count_of_clump_number : Grid → (rows cols : ℕ) → ℕ → ℕ
cell_count_of_clump_number numbers rows cols n = cell_count_of_combination (Some (pos n)
    ∷ []) (one_cell_combinations numbers rows cols)

-- the number of cells with each number from 1 to the number of the last clump
abbrev pub sizes_of_numbered_clumps : ℕ → Grid → (rows cols : ℕ) → List ℕ
sizes_of_numbered_clumps clumps numbers rows cols = map (cell_count_of_clump_number numbers rows cols)
    (range_with_len 1 clumps)
