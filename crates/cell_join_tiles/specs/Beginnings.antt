-- The labels of the clumps in a grid of tiles: they depend only on the number of clumps that begin in each row of each
-- tile.
use Rattle.std.specs.Prelude.{ℕ, ℤ, suc, pos, ◌≡◌, ◌⊎◌, ◌+◌, ◌-◌, ◌<◌, ◌==◌, nat_lt, if◌then◌else◌, List, [], ◌∷◌, length, take, sum, sum_by, count_by, Contains, Some, IsSome, slice_index, slice_index_or}
use Rattle.cell_core.specs.Grid.{Grid}
use Rattle.cell_clumps.specs.declared.clump.Joining.{Joining}
use Rattle.cell_clumps.specs.Clumps.{Position, cell_at_position, IsEarlierCell, AreAdjacent, IsClumpMapOf}
use Rattle.cell_clumps.specs.ClumpLaw.{AreFirstCellsOfAllClumps}
use Rattle.cell_clumps.specs.parts.CellPlaces.{position_at_row_and_column}
use Rattle.cell_join_numbers.specs.Parts.{Rectangle}
use Rattle.cell_join_numbers.specs.ClumpParts.{IsTileOfFullMap, position_in_full_map}
use Rattle.cell_join_numbers.specs.Labelled.{AreLabelsOfMeetingCells, AreCellsLabelledInOrder}

-- ---- the arithmetic of labels

-- the index of the length that contains `x`, if lengths are laid end to end
abbrev pub place_of_interval_containing : List ℕ → ℕ → ℕ
place_of_interval_containing [] x = 0
place_of_interval_containing (n ∷ lengths) x = if nat_lt x n then 0 else suc (place_of_interval_containing lengths
    (x - n))

-- the number of a tile's clumps that begin in each of its rows
abbrev pub BegunClumpCountsByRow : Type 0
BegunClumpCountsByRow = List ℕ

-- the number of clumps in a tile, in a row of tiles, and in a grid of tiles
abbrev pub clump_count_of_tile : BegunClumpCountsByRow → ℕ
clump_count_of_tile begun = sum begun

abbrev pub clump_count_of_tile_row : List BegunClumpCountsByRow → ℕ
clump_count_of_tile_row tiles = sum_by clump_count_of_tile tiles

abbrev pub clump_count_of_tile_grid : List (List BegunClumpCountsByRow) → ℕ
clump_count_of_tile_grid grid = sum_by clump_count_of_tile_row grid

-- the number of clumps that begin before a row, in one tile and in all tiles of a row of tiles; and the number of
-- clumps that begin in this row in the tiles on the left
abbrev pub begun_clump_count_before_row : BegunClumpCountsByRow → ℕ → ℕ
begun_clump_count_before_row begun i = sum (take i begun)

abbrev pub begun_clump_count_above_in_tiles : List BegunClumpCountsByRow → ℕ → ℕ
begun_clump_count_above_in_tiles tiles i = sum_by (λ begun. begun_clump_count_before_row begun i) tiles

abbrev pub begun_clump_count_in_row_to_left : List BegunClumpCountsByRow → (i c : ℕ) → ℕ
begun_clump_count_in_row_to_left tiles i c = sum_by (λ begun. slice_index begun i) (take c tiles)

-- the row of its tile in which clump number k + 1 begins: clumps are numbered in the order of their first cells, so the
-- numbers of one row are consecutive
abbrev pub row_where_clump_number_begins : BegunClumpCountsByRow → (k : ℕ) → ℕ
row_where_clump_number_begins begun k = place_of_interval_containing begun k

-- the label of clump number k + 1 of a tile, counted from the first label of its row of tiles
abbrev pub label_of_clump_begun_in_row : List BegunClumpCountsByRow → (i c k : ℕ) → ℕ
label_of_clump_begun_in_row tiles i c k = begun_clump_count_above_in_tiles tiles i + begun_clump_count_in_row_to_left tiles i c + (k - begun_clump_count_before_row (slice_index_or tiles c []) i)

abbrev pub clump_label_in_tile_row : List BegunClumpCountsByRow → (c k : ℕ) → ℕ
clump_label_in_tile_row tiles c k = label_of_clump_begun_in_row tiles
    (row_where_clump_number_begins (slice_index_or tiles c []) k) c k

-- the label of clump number k + 1 of the tile in row `r` and column `c` of the grid
abbrev pub label_of_clump_in_tile_grid : List (List BegunClumpCountsByRow) → (r c k : ℕ) → ℕ
label_of_clump_in_tile_grid grid r c k = sum_by clump_count_of_tile_row (take r grid) + clump_label_in_tile_row
    (slice_index_or grid r []) c k

-- ---- maps

-- the rectangle of the tile in row `r` and column `c` of the grid, given the heights of the rows and the widths of the
-- columns
abbrev pub rectangle_of_tile_in_grid : (heights widths : List ℕ) → (r c : ℕ) → Rectangle
rectangle_of_tile_in_grid heights widths r c = record { top = sum (take r heights); left = sum (take c widths); rows = slice_index heights r; cols = slice_index widths c }

-- a map is cut into rows of tiles with these heights and columns with these widths
pub record MapIsCutIntoTiles (whole : Grid) (heights widths : List ℕ) (map_of : ℕ → ℕ → Grid) : Type 0 where
  pub within : (p : Position) → IsSome (cell_at_position whole p) → (p.row < sum heights) × (p.col < sum widths)
  pub tiles : (r c : ℕ) → r < length heights → c < length widths → IsTileOfFullMap whole (record { place = rectangle_of_tile_in_grid heights widths r c; map = map_of r c })

-- a tile's clump numbers, their first cells, and the number of clumps that begin in each row
pub record TileHasClumpBeginnings (j : Joining) (rows : ℕ) (m numbers : Grid) (firsts : List Position)
    (begun : BegunClumpCountsByRow) : Type 0 where
  pub clumping : IsClumpMapOf j m numbers
  pub all : AreFirstCellsOfAllClumps j m firsts
  pub long : length begun ≡ rows
  pub counts : (i : ℕ) → i < rows → slice_index begun i ≡ count_by (λ p. p.row == i) firsts

-- `TileHasClumpBeginnings` for each tile of a grid
pub record TilesHaveClumpBeginnings (j : Joining) (heights widths : List ℕ) (map_of numbers_of : ℕ → ℕ → Grid) (firsts_of : ℕ → ℕ → List Position) (grid : List (List BegunClumpCountsByRow)) : Type 0 where
  pub high : length grid ≡ length heights
  pub wide : (r : ℕ) → r < length heights → length (slice_index_or grid r []) ≡ length widths
  pub tiles : (r c : ℕ) → r < length heights → c < length widths → TileHasClumpBeginnings j (slice_index heights r) (map_of r c) (numbers_of r c) (firsts_of r c) (slice_index_or (slice_index_or grid r []) c [])

-- each cell of each tile has the label of its clump
abbrev pub CellsHaveClumpLabels : (heights widths : List ℕ) → (numbers_of : ℕ → ℕ → Grid) → List (List BegunClumpCountsByRow) → (Position → ℕ) → Type 0
CellsHaveClumpLabels heights widths numbers_of grid label_of = (r c : ℕ) → r < length heights → c < length widths → (p : Position) → p.row < slice_index heights r → p.col < slice_index widths c → (n : ℕ) → cell_at_position (numbers_of r c) p ≡ Some (pos n) → label_of (position_in_full_map (rectangle_of_tile_in_grid heights widths r c) p) ≡ label_of_clump_in_tile_grid grid r c (n - 1)

-- adjacent cells of one category have one label, or two labels that are paired, and no other labels are paired
pub record AreMeetingLabelsPaired (j : Joining) (m : Grid) (label_of : Position
    → ℕ) (pairs : List (ℕ × ℕ)) : Type 0 where
  pub meet : (p q : Position) (v : ℤ) → AreAdjacent j p q → cell_at_position m p ≡ Some v → cell_at_position m q ≡ Some v → (label_of p ≡ label_of q) ⊎ (Contains pairs (label_of p, label_of q) ⊎ Contains pairs (label_of q, label_of p))
  pub only : (a b : ℕ) → Contains pairs (a, b) → AreLabelsOfMeetingCells j m label_of a b

-- the labels are in the order of the clumps' first cells in the full map
abbrev pub LabelsFollowFirstCells : Type 0
LabelsFollowFirstCells = (j : Joining) (whole : Grid) (heights widths : List ℕ) (map_of numbers_of : ℕ → ℕ → Grid) (firsts_of : ℕ → ℕ → List Position) (grid : List (List BegunClumpCountsByRow)) → MapIsCutIntoTiles whole heights widths map_of → TilesHaveClumpBeginnings j heights widths map_of numbers_of firsts_of grid → (r c k s d l : ℕ) (one other : Position) → r < length heights → c < length widths → k < length (firsts_of r c) → s < length heights → d < length widths → l < length (firsts_of s d) → one ≡ position_in_full_map (rectangle_of_tile_in_grid heights widths r c) (slice_index_or (firsts_of r c) k (position_at_row_and_column 0 0)) → other ≡ position_in_full_map (rectangle_of_tile_in_grid heights widths s d) (slice_index_or (firsts_of s d) l (position_at_row_and_column 0 0)) → label_of_clump_in_tile_grid grid r c k < label_of_clump_in_tile_grid grid s d l → IsEarlierCell one other

-- clump labels satisfy the conditions for labels: they are given to cells in row order, one per clump
abbrev pub ClumpLabelsFitJoiningByPairs : Type 0
ClumpLabelsFitJoiningByPairs = (j : Joining) (whole : Grid) (heights widths : List ℕ) (map_of numbers_of : ℕ → ℕ → Grid) (firsts_of : ℕ → ℕ → List Position) (grid : List (List BegunClumpCountsByRow)) → MapIsCutIntoTiles whole heights widths map_of → TilesHaveClumpBeginnings j heights widths map_of numbers_of firsts_of grid → (label_of : Position → ℕ) → CellsHaveClumpLabels heights widths numbers_of grid label_of → (starts : List Position) × (length starts ≡ clump_count_of_tile_grid grid) × ((pairs : List (ℕ × ℕ)) → AreMeetingLabelsPaired j whole label_of pairs → AreCellsLabelledInOrder j whole starts label_of pairs)
