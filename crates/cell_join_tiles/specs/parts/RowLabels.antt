-- The labels of the clumps in a row of tiles, given the labels of the first clumps in each row of each tile.
use Rattle.std.specs.Prelude.{ℕ, suc, ◌≡◌, ◌+◌, ◌-◌, ◌<◌, List, [], length, map, sum, sum_by, slice_index, slice_index_or}
use Rattle.std.specs.List.{range_with_len}
use Rattle.cell_join_tiles.specs.Beginnings.{BegunClumpCountsByRow, begun_clump_count_before_row}
use Rattle.cell_join_tiles.specs.Beginnings.{begun_clump_count_above_in_tiles, begun_clump_count_in_row_to_left}
use Rattle.cell_join_tiles.specs.Beginnings.{row_where_clump_number_begins, clump_label_in_tile_row}

-- the number of a tile's clumps that begin in each row or above it
pub record AreClumpCountsUpToRows (begun ends : List ℕ) : Type 0 where
  pub long : length ends ≡ length begun
  pub each : (i : ℕ) → i < length begun → slice_index ends i ≡ begun_clump_count_before_row begun (suc i)

-- the number of clumps that begin in one row of cells, in all tiles of a row of tiles
abbrev pub begun_clump_count_in_all_tiles : List BegunClumpCountsByRow → ℕ → ℕ
begun_clump_count_in_all_tiles tiles i = sum_by (λ begun. slice_index begun i) tiles

-- the label of clump number k + 1 of a tile
abbrev pub label_of_clump_from_first_labels : (firsts begun : List ℕ) → ℕ → ℕ
label_of_clump_from_first_labels firsts begun k = slice_index firsts (row_where_clump_number_begins begun k) +
    (k - begun_clump_count_before_row begun (row_where_clump_number_begins begun k))

-- for each row of the tile in column `c`, the label of the first clump that begins in it; the labels of the row of
-- tiles start at `base`
abbrev pub AreFirstLabelsOfTileInRow : (base : ℕ) → List BegunClumpCountsByRow → ℕ → List ℕ → Type 0
AreFirstLabelsOfTileInRow base tiles c firsts = (i : ℕ) → i < length firsts → slice_index firsts i ≡ base + begun_clump_count_above_in_tiles tiles i + begun_clump_count_in_row_to_left tiles i c

-- the label of clump number k + 1 of the tile in column `c`
abbrev pub label_of_clump_in_row_of_tiles : (base : ℕ) → List BegunClumpCountsByRow → (c k : ℕ) → ℕ
label_of_clump_in_row_of_tiles base tiles c k = base + clump_label_in_tile_row tiles c k

-- the labels of all clumps of the tile in column `c`
abbrev pub labels_of_clumps_in_tile : (base : ℕ) → List BegunClumpCountsByRow → ℕ → List ℕ
labels_of_clumps_in_tile base tiles c = map (label_of_clump_in_row_of_tiles base tiles c)
    (range_with_len 0 (sum (slice_index_or tiles c [])))
