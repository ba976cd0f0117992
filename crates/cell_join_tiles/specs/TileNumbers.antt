-- Numbers of labels, listed tile by tile.
use Rattle.std.specs.Prelude.{ℕ, ◌≡◌, ◌<◌, ◌+◌, List, [], length, map, flat_map, take, sum_by, slice_index, slice_index_or}
use Rattle.std.specs.List.{range_with_len}
use Rattle.cell_join_tiles.specs.Beginnings.{BegunClumpCountsByRow, clump_count_of_tile, clump_count_of_tile_row}
use Rattle.cell_join_tiles.specs.Beginnings.{label_of_clump_in_tile_grid}

-- the numbers of the clumps of a tile, of a row of tiles, and of all tiles row by row
abbrev pub clump_numbers_of_tile : (ℕ → ℕ) → List (List BegunClumpCountsByRow) → (r c : ℕ) → List ℕ
clump_numbers_of_tile number grid r c = map (λ k. number (label_of_clump_in_tile_grid grid r c k)) (range_with_len 0 (clump_count_of_tile (slice_index_or (slice_index_or grid r []) c [])))

abbrev pub clump_numbers_of_tile_row : (ℕ → ℕ) → List (List BegunClumpCountsByRow) → ℕ → List ℕ
clump_numbers_of_tile_row number grid r = flat_map (clump_numbers_of_tile number grid r) (range_with_len 0 (length (slice_index_or grid r [])))

abbrev pub clump_numbers_of_all_tiles : (ℕ → ℕ) → List (List BegunClumpCountsByRow) → List ℕ
clump_numbers_of_all_tiles number grid = flat_map (clump_numbers_of_tile_row number grid)
    (range_with_len 0 (length grid))

-- the number of clumps in the tiles before the tile in row `r` and column `c` of the grid
abbrev pub clump_count_before_tile : List (List BegunClumpCountsByRow) → (r c : ℕ) → ℕ
clump_count_before_tile grid r c = sum_by clump_count_of_tile_row (take r grid) + sum_by clump_count_of_tile (take c (slice_index_or grid r []))

-- each clump's number is listed at the clump's index among the clumps of all tiles
abbrev pub ClumpNumbersAreListedByTile : Type 0
ClumpNumbersAreListedByTile = (number : ℕ → ℕ) (grid : List (List BegunClumpCountsByRow)) (r c k : ℕ) → r < length grid → c < length (slice_index_or grid r []) → k < clump_count_of_tile (slice_index_or (slice_index_or grid r []) c []) → slice_index (clump_numbers_of_all_tiles number grid) (clump_count_before_tile grid r c + k) ≡ number (label_of_clump_in_tile_grid grid r c k)
