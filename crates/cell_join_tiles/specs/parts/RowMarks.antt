-- Lines of cells along the sides of the tiles in a row, and the pairs of labels within the row.
use Rattle.std.specs.Prelude.{ℕ, ℤ, zero, suc, pos, negsuc, ◌≡◌, ◌⊎◌, ◌↔◌, ◌-◌, ◌<◌, ◌==◌, List, [], length, map, flat_map, sum, Contains, Option, Some, None, nat_lt, if◌then◌else◌, slice_index_or}
use Rattle.std.specs.List.{range_with_len}
use Rattle.cell_core.specs.Grid.{CellValue}
use Rattle.cell_clumps.specs.declared.clump.Joining.{Joining}
use Rattle.cell_join_tiles.specs.declared.marks.Mark.{Mark}
use Rattle.cell_join_tiles.specs.Beginnings.{BegunClumpCountsByRow}
use Rattle.cell_join_tiles.specs.SeamLines.{UnfinishedConsecutiveClumps, label_pairs_of_adjacent_lines}
use Rattle.cell_join_tiles.specs.Values.{TileSideValue, TileBorderValue, empty_tile_border}
use Rattle.cell_join_tiles.specs.parts.RowLabels.{label_of_clump_in_row_of_tiles}

-- the clump with this number, counted from 0
abbrev pub clump_from_number : CellValue → Option ℕ
clump_from_number None = None
clump_from_number (Some (pos n)) = if n == 0 then None else Some (n - 1)
clump_from_number (Some (negsuc n)) = None

-- the mark of a cell: its category and label, if its number is a clump of its tile
abbrev pub labelled_category_of_clump : (ℕ → ℕ) → ℕ → ℤ → Option ℕ → Option Mark
labelled_category_of_clump label clumps v None = None
labelled_category_of_clump label clumps v (Some k) = if nat_lt k clumps then Some
    (record { category = v; label = label k }) else None

abbrev pub labelled_category_of_cell : (ℕ → ℕ) → ℕ → (cell number : CellValue) → Option Mark
labelled_category_of_cell label clumps None number = None
labelled_category_of_cell label clumps (Some v) number = labelled_category_of_clump label clumps v
    (clump_from_number number)

-- the marks of the cells of a side
abbrev pub labelled_categories_of_side : (ℕ → ℕ) → ℕ → TileSideValue → UnfinishedConsecutiveClumps
labelled_categories_of_side label clumps side = map (λ k. labelled_category_of_cell label clumps (slice_index_or side.cells k None) (slice_index_or side.numbers k None)) (range_with_len 0 (length side.cells))

-- the number of clumps that begin in each row of each tile in a row of tiles
abbrev pub begun_clump_counts_of_tile_row : List TileBorderValue → List BegunClumpCountsByRow
begun_clump_counts_of_tile_row row = map (λ border. border.begun) row

abbrev pub border_of_tile_in_row : List TileBorderValue → ℕ → TileBorderValue
border_of_tile_in_row row c = slice_index_or row c empty_tile_border

-- each tile of the row has this number of rows
abbrev pub TilesHaveRowCount : ℕ → List TileBorderValue → Type 0
TilesHaveRowCount rows row = (c : ℕ) → c < length row → length (border_of_tile_in_row row c).begun ≡ rows

-- a side of the tile in column `c`, as a line; the labels of the row of tiles start at `base`
abbrev pub labelled_line_of_tile_side : (base : ℕ) → List TileBorderValue → ℕ → TileSideValue
    → UnfinishedConsecutiveClumps
labelled_line_of_tile_side base row c side = labelled_categories_of_side (label_of_clump_in_row_of_tiles base
    (begun_clump_counts_of_tile_row row) c) (sum (slice_index_or (begun_clump_counts_of_tile_row row) c [])) side

-- the last column of the tile to the left of column `c`
abbrev pub labelled_last_column_on_the_left : (base : ℕ) → List TileBorderValue → ℕ → UnfinishedConsecutiveClumps
labelled_last_column_on_the_left base row zero = []
labelled_last_column_on_the_left base row (suc c) = labelled_line_of_tile_side base row c
    (border_of_tile_in_row row c).right

-- the pairs between a tile's first column and the last column of the tile on its left, and the pairs of the full row
abbrev pub label_pairs_with_left_tile : Joining → (base : ℕ) → List TileBorderValue → ℕ → List (ℕ × ℕ)
label_pairs_with_left_tile j base row c = label_pairs_of_adjacent_lines j
    (labelled_last_column_on_the_left base row c) (labelled_line_of_tile_side base row c
    (border_of_tile_in_row row c).left)

abbrev pub label_pairs_within_tile_row : Joining → (base : ℕ) → List TileBorderValue → ℕ → List (ℕ × ℕ)
label_pairs_within_tile_row j base row n = flat_map (label_pairs_with_left_tile j base row) (range_with_len 0 n)

-- the first rows of the first `n` tiles, one after the other, and their last rows
abbrev pub labelled_first_rows_of_tiles : (base : ℕ) → List TileBorderValue → ℕ → UnfinishedConsecutiveClumps
labelled_first_rows_of_tiles base row n = flat_map (λ c. labelled_line_of_tile_side base row c
    (border_of_tile_in_row row c).first) (range_with_len 0 n)

abbrev pub labelled_last_rows_of_tiles : (base : ℕ) → List TileBorderValue → ℕ → UnfinishedConsecutiveClumps
labelled_last_rows_of_tiles base row n = flat_map (λ c. labelled_line_of_tile_side base row c
    (border_of_tile_in_row row c).last) (range_with_len 0 n)

-- pairs are added to other pairs, and may already be among them
abbrev pub AddsLabelPairs : (old new added : List (ℕ × ℕ)) → Type 0
AddsLabelPairs old new added = (x : ℕ × ℕ) → Contains new x ↔ (Contains old x ⊎ Contains added x)
