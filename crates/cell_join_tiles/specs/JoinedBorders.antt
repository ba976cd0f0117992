-- The borders of a grid of tiles, the pairs of labels at its seams, and the numbers of the full map.
use Rattle.std.specs.Prelude.{ℕ, suc, ◌≡◌, ◌-◌, ◌<◌, List, [], ◌++◌, length, map, flat_map, All, slice_index, slice_index_or}
use Rattle.std.specs.List.{range_with_len}
use Rattle.cell_core.specs.Grid.{Grid}
use Rattle.cell_clumps.specs.declared.clump.Joining.{Joining}
use Rattle.cell_clumps.specs.Clumps.{Position, IsClumpMapOf}
use Rattle.cell_clumps.specs.parts.CellPlaces.{position_at_row_and_column}
use Rattle.cell_join_numbers.specs.Labelled.{AreCellsLabelledInOrder}
use Rattle.cell_join_tiles.specs.Values.{TileBorderValue, empty_tile_border}
use Rattle.cell_join_tiles.specs.Beginnings.{BegunClumpCountsByRow, clump_count_of_tile_grid, MapIsCutIntoTiles}
use Rattle.cell_join_tiles.specs.Borders.{BegunCountsAreMaximumRises, label_of_full_map_cell}
use Rattle.cell_join_tiles.specs.SeamLines.{UnfinishedConsecutiveClumps, label_pairs_of_adjacent_lines, TileHasSide}
use Rattle.cell_join_tiles.specs.SeamLines.{labelled_categories_along_side, joined_lines_of_tile_row}

-- the border of a tile with `rows` × `cols` cells
pub record TileHasBorder (j : Joining) (rows cols : ℕ) (m numbers : Grid) (border : TileBorderValue) : Type 0 where
  pub clumping : IsClumpMapOf j m numbers
  pub first : TileHasSide m numbers cols (position_at_row_and_column 0) border.first.cells border.first.numbers
  pub last : TileHasSide m numbers cols (position_at_row_and_column (rows - 1)) border.last.cells border.last.numbers
  pub left : TileHasSide m numbers rows (λ k. position_at_row_and_column k 0) border.left.cells border.left.numbers
  pub right : TileHasSide m numbers rows (λ k. position_at_row_and_column k
      (cols - 1)) border.right.cells border.right.numbers
  pub rises : BegunCountsAreMaximumRises rows numbers border.begun

-- the border of the tile in row `r` and column `c` of the grid
abbrev pub border_of_tile_at : List (List TileBorderValue) → (r c : ℕ) → TileBorderValue
border_of_tile_at grid r c = slice_index_or (slice_index_or grid r []) c empty_tile_border

-- `TileHasBorder` for each tile of a grid, in which no tile is empty
pub record TilesHaveBorders (j : Joining) (heights widths : List ℕ) (map_of numbers_of : ℕ → ℕ → Grid) (grid : List (List TileBorderValue)) : Type 0 where
  pub some_rows : All (λ n. 0 < n) heights
  pub some_cols : All (λ n. 0 < n) widths
  pub high : length grid ≡ length heights
  pub wide : (r : ℕ) → r < length heights → length (slice_index_or grid r []) ≡ length widths
  pub tiles : (r c : ℕ) → r < length heights → c < length widths → TileHasBorder j (slice_index heights r) (slice_index widths c) (map_of r c) (numbers_of r c) (border_of_tile_at grid r c)

-- the number of clumps that begin in each row of each tile
abbrev pub begun_clump_counts_of_grid : List (List TileBorderValue) → List (List BegunClumpCountsByRow)
begun_clump_counts_of_grid grid = map (λ row. map (λ border. border.begun) row) grid

-- lines of labels next to the seams
abbrev pub labelled_first_column_of_tile : List (List TileBorderValue) → (r c : ℕ) → UnfinishedConsecutiveClumps
labelled_first_column_of_tile grid r c = labelled_categories_along_side (begun_clump_counts_of_grid grid) r c
    (border_of_tile_at grid r c).left.cells (border_of_tile_at grid r c).left.numbers

abbrev pub labelled_last_column_of_tile : List (List TileBorderValue) → (r c : ℕ) → UnfinishedConsecutiveClumps
labelled_last_column_of_tile grid r c = labelled_categories_along_side (begun_clump_counts_of_grid grid) r c
    (border_of_tile_at grid r c).right.cells (border_of_tile_at grid r c).right.numbers

abbrev pub labelled_first_row_of_tile_row : List (List TileBorderValue) → ℕ → UnfinishedConsecutiveClumps
labelled_first_row_of_tile_row grid r = joined_lines_of_tile_row (map (λ c. labelled_categories_along_side (begun_clump_counts_of_grid grid) r c (border_of_tile_at grid r c).first.cells (border_of_tile_at grid r c).first.numbers) (range_with_len 0 (length (slice_index_or grid r []))))

abbrev pub labelled_last_row_of_tile_row : List (List TileBorderValue) → ℕ → UnfinishedConsecutiveClumps
labelled_last_row_of_tile_row grid r = joined_lines_of_tile_row (map (λ c. labelled_categories_along_side (begun_clump_counts_of_grid grid) r c (border_of_tile_at grid r c).last.cells (border_of_tile_at grid r c).last.numbers) (range_with_len 0 (length (slice_index_or grid r []))))

-- the pairs of labels at the seams: within each row of tiles, and between two rows of tiles
abbrev pub label_pairs_at_seams_in_tile_row : Joining → List (List TileBorderValue) → ℕ → List (ℕ × ℕ)
label_pairs_at_seams_in_tile_row j grid r = flat_map (λ c. label_pairs_of_adjacent_lines j (labelled_last_column_of_tile grid r c) (labelled_first_column_of_tile grid r (suc c))) (range_with_len 0 (length (slice_index_or grid r []) - 1))

abbrev pub label_pairs_at_seams_of_grid : Joining → List (List TileBorderValue) → List (ℕ × ℕ)
label_pairs_at_seams_of_grid j grid = flat_map (label_pairs_at_seams_in_tile_row j grid) (range_with_len 0 (length grid)) ++ flat_map (λ r. label_pairs_of_adjacent_lines j (labelled_last_row_of_tile_row grid r) (labelled_first_row_of_tile_row grid (suc r))) (range_with_len 0 (length grid - 1))

-- only the borders are needed to label the full map's cells so that the conditions for joining by pairs of labels hold
abbrev pub BordersSufficeToLabelCells : Type 0
BordersSufficeToLabelCells = (j : Joining) (whole : Grid) (heights widths : List ℕ) (map_of numbers_of : ℕ → ℕ → Grid) (grid : List (List TileBorderValue)) → MapIsCutIntoTiles whole heights widths map_of → TilesHaveBorders j heights widths map_of numbers_of grid → (starts : List Position) × (length starts ≡ clump_count_of_tile_grid (begun_clump_counts_of_grid grid)) × AreCellsLabelledInOrder j whole starts (label_of_full_map_cell heights widths numbers_of (begun_clump_counts_of_grid grid)) (label_pairs_at_seams_of_grid j grid)
