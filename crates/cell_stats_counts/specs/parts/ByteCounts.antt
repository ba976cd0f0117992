-- The number of times that each byte occurs, from a first byte on.
use Rattle.std.specs.Prelude.{ℕ, ◌+◌, ◌*◌, List, [], ◌∷◌}
use Rattle.cell_core_values.specs.SmallCells.{cell_of_stored_byte}
use Rattle.cell_stats_combinations.specs.declared.skip.Skip.{Skip}
use Rattle.cell_stats_combinations.specs.Combinations.{Combination}
use Rattle.cell_stats_combinations.specs.LeftOut.{kept_cells}
use Rattle.cell_stats_counts.specs.Counts.{cell_count_of_combination}
use Rattle.cell_stats_counts.specs.parts.Alone.{combination_of_one_cell}

-- the sum of `f` over the bytes from `byte` on, each taken as many times as it is counted
abbrev pub sum_over_counted_bytes : (ℕ → ℕ) → ℕ → List ℕ → ℕ
sum_over_counted_bytes f byte [] = 0
sum_over_counted_bytes f byte (count ∷ counts) = f byte * count + sum_over_counted_bytes f (byte + 1) counts

-- the count that one cell stored as a byte adds to a combination: 1 or 0
abbrev pub count_added_by_byte_cell : Skip → Combination → ℕ → ℕ
count_added_by_byte_cell skip k byte = cell_count_of_combination k
    (kept_cells skip (combination_of_one_cell (cell_of_stored_byte byte) ∷ []))
