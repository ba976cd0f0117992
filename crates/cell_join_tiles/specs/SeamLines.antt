-- The pairs of labels at the seams of a grid, from the lines of cells on both sides of each seam.
use Rattle.std.specs.Prelude.{ℕ, [], ◌∷◌, ◌++◌, flat_map, map, Some, if◌then◌else◌, ◌≡◌, ◌⊎◌, ◌↔◌, ◌+◌, ◌-◌, ◌<◌, suc, List, length, take, sum, All, Contains, Option, None, IsSome, slice_index, slice_index_or}
use Rattle.std.specs.Option.{option_map}
use Rattle.std.specs.Ordering.{int_eq}
use Rattle.std.specs.List.{range_with_len}
use Rattle.cell_core.specs.Grid.{Grid, CellValue}
use Rattle.cell_clumps.specs.declared.clump.Joining.{Joining}
use Rattle.cell_clumps.specs.declared.clump.Joining.TheVariants.{Edges, EdgesAndCorners}
use Rattle.cell_clumps.specs.Clumps.{Position, cell_at_position}
use Rattle.cell_clumps.specs.parts.CellPlaces.{position_at_row_and_column}
use Rattle.cell_join_numbers.specs.ClumpParts.{position_in_full_map}
use Rattle.cell_join_tiles.specs.declared.marks.Mark.{Mark}
use Rattle.cell_join_tiles.specs.Beginnings.{BegunClumpCountsByRow, label_of_clump_in_tile_grid, MapIsCutIntoTiles}
use Rattle.cell_join_tiles.specs.Beginnings.{rectangle_of_tile_in_grid}
use Rattle.cell_join_tiles.specs.Borders.{AreLabelsPairedAtSeams, number_of_cell_or_zero, label_of_full_map_cell}

-- a line of cells, each with its mark, or `None` for null
abbrev pub UnfinishedConsecutiveClumps : Type 0
UnfinishedConsecutiveClumps = List (Option Mark)

-- the labels of two cells, if the cells have the same category
abbrev pub label_pair_of_equal_cells : Option Mark → Option Mark → List (ℕ × ℕ)
label_pair_of_equal_cells None other = []
label_pair_of_equal_cells (Some one) None = []
label_pair_of_equal_cells (Some one) (Some other) = if int_eq one.category other.category then
    (one.label, other.label) ∷ [] else []

-- the pair of the cell at index `k` of one line and the cell opposite it; if corners connect, also the pairs of each of
-- these cells and the next cell in the other line
abbrev pub label_pairs_of_opposite_cells : Joining → (one other : UnfinishedConsecutiveClumps) → ℕ → List (ℕ × ℕ)
label_pairs_of_opposite_cells Edges one other k = label_pair_of_equal_cells (slice_index_or one k None)
    (slice_index_or other k None)
label_pairs_of_opposite_cells EdgesAndCorners one other k = (label_pair_of_equal_cells (slice_index_or one k None) (slice_index_or other k None) ++ label_pair_of_equal_cells (slice_index_or one k None) (slice_index_or other (k + 1) None)) ++ label_pair_of_equal_cells (slice_index_or one (k + 1) None) (slice_index_or other k None)

-- all pairs of two adjacent lines
abbrev pub label_pairs_of_adjacent_lines : Joining → (one other : UnfinishedConsecutiveClumps) → List (ℕ × ℕ)
label_pairs_of_adjacent_lines j one other = flat_map (label_pairs_of_opposite_cells j one other)
    (range_with_len 0 (length one))

-- the mark of a cell of the full map: its category and its label
abbrev pub labelled_category_at_position : Grid → (Position → ℕ) → Position → Option Mark
labelled_category_at_position whole label_of p = option_map (λ v. record { category = v; label = label_of p })
    (cell_at_position whole p)

-- the line contains `count` cells of the full map, with their labels
pub record IsLineOfFullMap (whole : Grid) (label_of : Position → ℕ) (count : ℕ) (at : ℕ → Position) (line : UnfinishedConsecutiveClumps) : Type 0 where
  pub long : length line ≡ count
  pub each : (k : ℕ) → k < count → slice_index_or line k None ≡ labelled_category_at_position whole label_of (at k)

-- the lines next to the seams: the first and last column of each tile, and the first and last row of cells of each row
-- of tiles
pub record AreSeamLines (whole : Grid) (heights widths : List ℕ) (label_of : Position → ℕ) (left right : ℕ → ℕ → UnfinishedConsecutiveClumps) (first last : ℕ → UnfinishedConsecutiveClumps) : Type 0 where
  pub lefts : (r c : ℕ) → r < length heights → c < length widths → IsLineOfFullMap whole label_of (slice_index heights r) (λ k. position_in_full_map (rectangle_of_tile_in_grid heights widths r c) (position_at_row_and_column k 0)) (left r c)
  pub rights : (r c : ℕ) → r < length heights → c < length widths → IsLineOfFullMap whole label_of (slice_index heights r) (λ k. position_in_full_map (rectangle_of_tile_in_grid heights widths r c) (position_at_row_and_column k (slice_index widths c - 1))) (right r c)
  pub firsts : (r : ℕ) → r < length heights → IsLineOfFullMap whole label_of (sum widths) (λ k. position_at_row_and_column (sum (take r heights)) k) (first r)
  pub lasts : (r : ℕ) → r < length heights → IsLineOfFullMap whole label_of (sum widths) (λ k. position_at_row_and_column (sum (take r heights) + (slice_index heights r - 1)) k) (last r)

-- the pair belongs to the two lines next to a seam
abbrev pub IsPairAcrossColumnSeam : Joining → (heights widths : List ℕ)
    → (left right : ℕ → ℕ → UnfinishedConsecutiveClumps) → ℕ × ℕ → Type 0
IsPairAcrossColumnSeam j heights widths left right pair = (r : ℕ) × (c : ℕ) × (r < length heights) × (suc c < length widths) × Contains (label_pairs_of_adjacent_lines j (right r c) (left r (suc c))) pair

abbrev pub IsPairAcrossRowSeam : Joining → List ℕ → (first last : ℕ → UnfinishedConsecutiveClumps) → ℕ × ℕ → Type 0
IsPairAcrossRowSeam j heights first last pair = (r : ℕ) × (suc r < length heights) × Contains (label_pairs_of_adjacent_lines j (last r) (first (suc r))) pair

-- the pairs of all seams are exactly the required pairs
abbrev pub SeamLinesGiveLabelPairs : Type 0
SeamLinesGiveLabelPairs = (j : Joining) (whole : Grid) (heights widths : List ℕ) (label_of : Position → ℕ) (left right : ℕ → ℕ → UnfinishedConsecutiveClumps) (first last : ℕ → UnfinishedConsecutiveClumps) (pairs : List (ℕ × ℕ)) → All (λ n. 0 < n) heights → All (λ n. 0 < n) widths → ((p : Position) → IsSome (cell_at_position whole p) → (p.row < sum heights) × (p.col < sum widths)) → AreSeamLines whole heights widths label_of left right first last → ((pair : ℕ × ℕ) → Contains pairs pair ↔ (IsPairAcrossColumnSeam j heights widths left right pair ⊎ IsPairAcrossRowSeam j heights first last pair)) → AreLabelsPairedAtSeams j whole heights widths label_of pairs

-- ---- lines from borders

-- a side of a tile: its cells at `count` positions, and their numbers
pub record TileHasSide (m numbers : Grid) (count : ℕ) (at : ℕ → Position) (cells ids : List CellValue) : Type 0 where
  pub long : length cells ≡ count
  pub each_cell : (k : ℕ) → k < count → slice_index_or cells k None ≡ cell_at_position m (at k)
  pub each_number : (k : ℕ) → k < count → slice_index_or ids k None ≡ cell_at_position numbers (at k)

-- the mark of a cell of the tile in row `r` and column `c` of the grid, given its number in the tile
abbrev pub labelled_category_in_tile : List (List BegunClumpCountsByRow) → (r c : ℕ) → (cell number : CellValue)
    → Option Mark
labelled_category_in_tile grid r c cell number = option_map (λ v. record { category = v; label = label_of_clump_in_tile_grid grid r c (number_of_cell_or_zero number - 1) }) cell

-- the marks of the cells of a side
abbrev pub labelled_categories_along_side : List (List BegunClumpCountsByRow) → (r c : ℕ)
    → (cells ids : List CellValue) → UnfinishedConsecutiveClumps
labelled_categories_along_side grid r c cells ids = map (λ k. labelled_category_in_tile grid r c (slice_index_or cells k None) (slice_index_or ids k None)) (range_with_len 0 (length cells))

-- a side of a tile is a line of cells of the full map
abbrev pub TileSidesAreFullMapLines : Type 0
TileSidesAreFullMapLines = (whole : Grid) (heights widths : List ℕ) (map_of numbers_of : ℕ → ℕ → Grid) (grid : List (List BegunClumpCountsByRow)) → MapIsCutIntoTiles whole heights widths map_of → (r c : ℕ) → r < length heights → c < length widths → (count : ℕ) (at : ℕ → Position) (cells ids : List CellValue) → ((k : ℕ) → k < count → ((at k).row < slice_index heights r) × ((at k).col < slice_index widths c)) → TileHasSide (map_of r c) (numbers_of r c) count at cells ids → IsLineOfFullMap whole (label_of_full_map_cell heights widths numbers_of grid) count (λ k. position_in_full_map (rectangle_of_tile_in_grid heights widths r c) (at k)) (labelled_categories_along_side grid r c cells ids)

-- the lines of a row of tiles, one after the other
abbrev pub joined_lines_of_tile_row : List UnfinishedConsecutiveClumps → UnfinishedConsecutiveClumps
joined_lines_of_tile_row [] = []
joined_lines_of_tile_row (line ∷ lines) = line ++ joined_lines_of_tile_row lines

-- the lines of one row of cells in each tile of a row of tiles form part of a row of the full map
abbrev pub TileRowsJoinToFullMapRow : Type 0
TileRowsJoinToFullMapRow = (whole : Grid) (label_of : Position → ℕ) (heights widths : List ℕ) (r inner row : ℕ) (lines : List UnfinishedConsecutiveClumps) → row ≡ sum (take r heights) + inner → length lines ≡ length widths → ((c : ℕ) → c < length widths → IsLineOfFullMap whole label_of (slice_index widths c) (λ k. position_in_full_map (rectangle_of_tile_in_grid heights widths r c) (position_at_row_and_column inner k)) (slice_index_or lines c [])) → IsLineOfFullMap whole label_of (sum widths) (position_at_row_and_column row) (joined_lines_of_tile_row lines)
