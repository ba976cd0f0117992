-- The labels of a row of tiles, from tile to tile.
use Rattle.std.specs.Prelude.{ℕ, suc, ◌≡◌, ◌≤◌, ◌<◌, ◌+◌, ◌-◌, List, [], length, take, sum_by, slice_index, slice_index_or}
use Rattle.cell_join_tiles.specs.Beginnings.{BegunClumpCountsByRow, clump_count_of_tile_row, clump_count_of_tile, begun_clump_count_before_row, begun_clump_count_above_in_tiles, begun_clump_count_in_row_to_left, row_where_clump_number_begins, label_of_clump_in_tile_grid}

-- for each row of the tile in row `r` and column `c` of the grid, the label of the first clump that begins in it
abbrev pub AreFirstLabelsOfTileInGrid : List (List BegunClumpCountsByRow) → (r c : ℕ) → List ℕ → Type 0
AreFirstLabelsOfTileInGrid grid r c line = (i : ℕ) → i < length line → slice_index line i ≡ sum_by clump_count_of_tile_row (take r grid) + begun_clump_count_above_in_tiles (slice_index_or grid r []) i + begun_clump_count_in_row_to_left (slice_index_or grid r []) i c

-- the line determines the label of each clump of the tile
abbrev pub FirstLabelsGiveTileLabels : Type 0
FirstLabelsGiveTileLabels = (grid : List (List BegunClumpCountsByRow)) (r c k : ℕ) (line : List ℕ) → length (slice_index_or (slice_index_or grid r []) c []) ≤ length line → k < clump_count_of_tile (slice_index_or (slice_index_or grid r []) c []) → AreFirstLabelsOfTileInGrid grid r c line → slice_index line (row_where_clump_number_begins (slice_index_or (slice_index_or grid r []) c []) k) + (k - begun_clump_count_before_row (slice_index_or (slice_index_or grid r []) c []) (row_where_clump_number_begins (slice_index_or (slice_index_or grid r []) c []) k)) ≡ label_of_clump_in_tile_grid grid r c k

-- the line plus the counts of the tile is the line of the tile to the right
abbrev pub FirstLabelsGiveNextTileLabels : Type 0
FirstLabelsGiveNextTileLabels = (grid : List (List BegunClumpCountsByRow)) (r c : ℕ) (line next : List ℕ) → c < length (slice_index_or grid r []) → AreFirstLabelsOfTileInGrid grid r c line → length next ≡ length line → ((i : ℕ) → i < length line → slice_index next i ≡ slice_index line i + slice_index (slice_index_or (slice_index_or grid r []) c []) i) → AreFirstLabelsOfTileInGrid grid r (suc c) next
