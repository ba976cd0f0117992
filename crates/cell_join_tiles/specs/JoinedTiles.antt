-- Joined rows of tiles, and what their numbering means for each map that is cut into these tiles.
use Rattle.std.specs.Prelude.{ℕ, zero, suc, pos, ◌≡◌, ◌↔◌, ◌+◌, ◌-◌, ◌<◌, List, [], ◌++◌, length, map, flat_map, take, sum, sum_by, Contains, Some, slice_index, slice_index_or}
use Rattle.std.specs.List.{range_with_len}
use Rattle.cell_core.specs.Grid.{Grid}
use Rattle.cell_clumps.specs.declared.clump.Joining.{Joining}
use Rattle.cell_clumps.specs.Clumps.{Position, cell_at_position, HasClumpNumber}
use Rattle.cell_join_numbers.specs.ClumpParts.{position_in_full_map}
use Rattle.cell_join_numbers.specs.Stretches.{consecutive_clumps_of_all_tiles}
use Rattle.cell_join_numbers.specs.declared.stretch.ConsecutiveClumps.{ConsecutiveClumps}
use Rattle.cell_join_numbers.specs.Labelled.{MapHasClumpCount}
use Rattle.cell_join_tiles.specs.Beginnings.{clump_count_of_tile_row, clump_count_of_tile_grid, MapIsCutIntoTiles}
use Rattle.cell_join_tiles.specs.Beginnings.{rectangle_of_tile_in_grid}
use Rattle.cell_join_tiles.specs.SeamLines.{UnfinishedConsecutiveClumps, label_pairs_of_adjacent_lines}
use Rattle.cell_join_tiles.specs.TileNumbers.{clump_count_before_tile}
use Rattle.cell_join_tiles.specs.Values.{TileBorderValue}
use Rattle.cell_join_tiles.specs.JoinedBorders.{TilesHaveBorders, begun_clump_counts_of_grid}
use Rattle.cell_join_tiles.specs.parts.RowLabels.{labels_of_clumps_in_tile}
use Rattle.cell_join_tiles.specs.parts.RowMarks.{begun_clump_counts_of_tile_row, labelled_first_rows_of_tiles}
use Rattle.cell_join_tiles.specs.parts.RowMarks.{labelled_last_rows_of_tiles, label_pairs_within_tile_row}

-- ---- the state that the joiner keeps

-- the connectivity, the number of clumps, the pairs of labels that meet at seams, the last row of cells with its
-- labels, and the labels of each tile's clumps
pub record TileJoinerValue : Type 0 where
  pub joining : Joining
  pub clumps : ℕ
  pub pairs : List (ℕ × ℕ)
  pub above : UnfinishedConsecutiveClumps
  pub tiles : List (List ℕ)

-- a row of tiles, and its first label
abbrev pub tile_row_at : List (List TileBorderValue) → ℕ → List TileBorderValue
tile_row_at grid r = slice_index_or grid r []

abbrev pub first_label_of_tile_row : List (List TileBorderValue) → ℕ → ℕ
first_label_of_tile_row grid r = sum_by clump_count_of_tile_row (take r (begun_clump_counts_of_grid grid))

-- the row of cells above a row of tiles
abbrev pub labelled_row_above_tile_row : List (List TileBorderValue) → ℕ → UnfinishedConsecutiveClumps
labelled_row_above_tile_row grid zero = []
labelled_row_above_tile_row grid (suc r) = labelled_last_rows_of_tiles (first_label_of_tile_row grid r)
    (tile_row_at grid r) (length (tile_row_at grid r))

-- the pairs at the seam above a row of tiles and at the seams within it
abbrev pub label_pairs_of_tile_row : Joining → (above : UnfinishedConsecutiveClumps) (base : ℕ)
    (row : List TileBorderValue) → List (ℕ × ℕ)
label_pairs_of_tile_row j above base row = label_pairs_of_adjacent_lines j above (labelled_first_rows_of_tiles base row (length row)) ++ label_pairs_within_tile_row j base row (length row)

abbrev pub label_pairs_of_tile_row_at : Joining → List (List TileBorderValue) → ℕ → List (ℕ × ℕ)
label_pairs_of_tile_row_at j grid r = label_pairs_of_tile_row j (labelled_row_above_tile_row grid r)
    (first_label_of_tile_row grid r) (tile_row_at grid r)

-- the labels of the clumps of each tile in a row
abbrev pub clump_labels_of_tiles_in_row : (base : ℕ) (row : List TileBorderValue) → List (List ℕ)
clump_labels_of_tiles_in_row base row = map (labels_of_clumps_in_tile base (begun_clump_counts_of_tile_row row))
    (range_with_len 0 (length row))

abbrev pub clump_labels_of_tiles_in_row_at : List (List TileBorderValue) → ℕ → List (List ℕ)
clump_labels_of_tiles_in_row_at grid r = clump_labels_of_tiles_in_row (first_label_of_tile_row grid r)
    (tile_row_at grid r)

-- the joiner has joined these rows of tiles
pub record JoinerHasJoinedTileRows (grid : List (List TileBorderValue)) (joiner : TileJoinerValue) : Type 0 where
  pub clumps : joiner.clumps ≡ clump_count_of_tile_grid (begun_clump_counts_of_grid grid)
  pub pairs : (x : ℕ × ℕ) → Contains joiner.pairs x ↔ ((r : ℕ) × (r < length grid) × Contains (label_pairs_of_tile_row_at joiner.joining grid r) x)
  pub above : joiner.above ≡ labelled_row_above_tile_row grid (length grid)
  pub tiles : joiner.tiles ≡ flat_map (clump_labels_of_tiles_in_row_at grid) (range_with_len 0 (length grid))

-- ---- the numbering

-- the number of clumps of each tile, row by row
abbrev pub clump_counts_by_tile : List (List TileBorderValue) → List ℕ
clump_counts_by_tile grid = flat_map (λ row. map (λ border. sum border.begun) row) grid

-- the numbers of the tiles' clumps, tile by tile: in each map that is cut into tiles with these borders, each cell has
-- the number of its clump
abbrev pub AreClumpNumbersOfTileGrid : Joining → List (List TileBorderValue) → List ℕ → Type 0
AreClumpNumbersOfTileGrid j grid numbers = (whole : Grid) (heights widths : List ℕ) (map_of numbers_of : ℕ → ℕ → Grid) → MapIsCutIntoTiles whole heights widths map_of → TilesHaveBorders j heights widths map_of numbers_of grid → (r c : ℕ) → r < length heights → c < length widths → (p : Position) (k : ℕ) → cell_at_position (numbers_of r c) p ≡ Some (pos k) → HasClumpNumber j whole (position_in_full_map (rectangle_of_tile_in_grid heights widths r c) p) (slice_index numbers (clump_count_before_tile (begun_clump_counts_of_grid grid) r c + (k - 1)))

-- each map that is cut into tiles with these borders has `n` clumps
abbrev pub IsClumpCountOfTileGrid : Joining → List (List TileBorderValue) → ℕ → Type 0
IsClumpCountOfTileGrid j grid n = (whole : Grid) (heights widths : List ℕ) (map_of numbers_of : ℕ → ℕ → Grid) → MapIsCutIntoTiles whole heights widths map_of → TilesHaveBorders j heights widths map_of numbers_of grid → MapHasClumpCount j whole n

-- the runs of the numbers of a grid of tiles
pub record AreConsecutiveClumpsOfTiles (j : Joining) (grid : List (List TileBorderValue))
    (runs : List ConsecutiveClumps) : Type 0 where
  pub numbers : List ℕ
  pub many : length numbers ≡ sum (clump_counts_by_tile grid)
  pub join : AreClumpNumbersOfTileGrid j grid numbers
  pub are : runs ≡ consecutive_clumps_of_all_tiles (clump_counts_by_tile grid) numbers
