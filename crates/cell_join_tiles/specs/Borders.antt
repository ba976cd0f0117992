-- Counts by row depend only on the numbers of a tile; with the pairs at the seams, they determine the numbers of the
-- full map.
use Rattle.std.specs.Prelude.{ℕ, ℤ, pos, negsuc, ◌≡◌, ◌⊎◌, ◌-◌, ◌<◌, ◌≤◌, List, [], length, take, sum, Contains, Some, None, IsSome, slice_index, slice_index_or}
use Rattle.cell_core.specs.Grid.{Grid, CellValue}
use Rattle.cell_clumps.specs.declared.clump.Joining.{Joining}
use Rattle.cell_clumps.specs.Clumps.{Position, cell_at_position, AreAdjacent, HasClumpNumber, IsClumpMapOf}
use Rattle.cell_clumps.specs.ClumpLaw.{AreFirstCellsOfAllClumps}
use Rattle.cell_clumps.specs.parts.CellPlaces.{position_at_row_and_column}
use Rattle.cell_join_numbers.specs.ClumpParts.{position_in_full_map}
use Rattle.cell_join_numbers.specs.Labelled.{MapHasClumpCount, AreLabelsOfMeetingCells, AreCellsLabelledInOrder}
use Rattle.cell_join_numbers.specs.Labelled.{AreClumpNumbersOfLabels, IsClumpCountOfLabels}
use Rattle.cell_join_tiles.specs.parts.Greatest.{greatest_of_number_and_rows}
use Rattle.cell_join_tiles.specs.Beginnings.{BegunClumpCountsByRow, begun_clump_count_before_row, place_of_interval_containing, clump_count_of_tile_grid, label_of_clump_in_tile_grid, MapIsCutIntoTiles, TileHasClumpBeginnings, CellsHaveClumpLabels, rectangle_of_tile_in_grid}

-- the number of clumps that begin in a row is the increase of the largest number so far
pub record BegunCountsAreMaximumRises (rows : ℕ) (numbers : Grid) (begun : BegunClumpCountsByRow) : Type 0 where
  pub long : length begun ≡ rows
  pub most : (i : ℕ) → i ≤ rows → begun_clump_count_before_row begun i
      ≡ greatest_of_number_and_rows 0 (take i numbers.rows)

-- the increases are the numbers of clumps that begin in each row
abbrev pub MaximumRisesCountNewClumps : Type 0
MaximumRisesCountNewClumps = (j : Joining) (m numbers : Grid) (firsts : List Position) (rows : ℕ) (begun : BegunClumpCountsByRow) → IsClumpMapOf j m numbers → AreFirstCellsOfAllClumps j m firsts → ((p : Position) → IsSome (cell_at_position m p) → p.row < rows) → BegunCountsAreMaximumRises rows numbers begun → TileHasClumpBeginnings j rows m numbers firsts begun

-- each tile of a grid is numbered, and the counts are the increases of its numbers
pub record BegunCountsOfTilesAreMaximumRises (j : Joining) (heights widths : List ℕ) (map_of numbers_of : ℕ → ℕ → Grid) (grid : List (List BegunClumpCountsByRow)) : Type 0 where
  pub high : length grid ≡ length heights
  pub wide : (r : ℕ) → r < length heights → length (slice_index_or grid r []) ≡ length widths
  pub clumpings : (r c : ℕ) → r < length heights → c < length widths → IsClumpMapOf j (map_of r c) (numbers_of r c)
  pub rises : (r c : ℕ) → r < length heights → c < length widths → BegunCountsAreMaximumRises (slice_index heights r) (numbers_of r c) (slice_index_or (slice_index_or grid r []) c [])

-- the number of a cell, or 0 if it has none
abbrev pub number_of_cell_or_zero : CellValue → ℕ
number_of_cell_or_zero None = 0
number_of_cell_or_zero (Some (pos n)) = n
number_of_cell_or_zero (Some (negsuc n)) = 0

-- the label of a cell of the full map: the label of its clump in its tile
abbrev pub label_of_full_map_cell : (heights widths : List ℕ) → (numbers_of : ℕ → ℕ → Grid)
    → List (List BegunClumpCountsByRow)
    → Position → ℕ
label_of_full_map_cell heights widths numbers_of grid p = label_of_clump_in_tile_grid grid (place_of_interval_containing heights p.row) (place_of_interval_containing widths p.col) (number_of_cell_or_zero (cell_at_position (numbers_of (place_of_interval_containing heights p.row) (place_of_interval_containing widths p.col)) (position_at_row_and_column (p.row - sum (take (place_of_interval_containing heights p.row) heights)) (p.col - sum (take (place_of_interval_containing widths p.col) widths)))) - 1)

abbrev pub CutMapCellsHaveClumpLabels : Type 0
CutMapCellsHaveClumpLabels = (heights widths : List ℕ) (numbers_of : ℕ → ℕ → Grid) (grid : List (List BegunClumpCountsByRow)) → CellsHaveClumpLabels heights widths numbers_of grid (label_of_full_map_cell heights widths numbers_of grid)

-- two cells are in the same tile
abbrev pub CellsAreInOneTile : (heights widths : List ℕ) → Position → Position → Type 0
CellsAreInOneTile heights widths p q = (place_of_interval_containing heights p.row ≡ place_of_interval_containing heights q.row) × (place_of_interval_containing widths p.col ≡ place_of_interval_containing widths q.col)

-- the labels of adjacent cells of one category in two tiles are paired; labels in one tile may also be paired
pub record AreLabelsPairedAtSeams (j : Joining) (whole : Grid) (heights widths : List ℕ) (label_of : Position → ℕ) (pairs : List (ℕ × ℕ)) : Type 0 where
  pub meet : (p q : Position) (v : ℤ) → AreAdjacent j p q → cell_at_position whole p ≡ Some v → cell_at_position whole q ≡ Some v → (CellsAreInOneTile heights widths p q → ⊥) → Contains pairs (label_of p, label_of q) ⊎ Contains pairs (label_of q, label_of p)
  pub only : (a b : ℕ) → Contains pairs (a, b) → AreLabelsOfMeetingCells j whole label_of a b

-- the full map's cells satisfy the conditions for joining by pairs of labels, with one label per clump of the tiles
abbrev pub BordersLabelCellsForJoining : Type 0
BordersLabelCellsForJoining = (j : Joining) (whole : Grid) (heights widths : List ℕ) (map_of numbers_of : ℕ → ℕ → Grid) (grid : List (List BegunClumpCountsByRow)) → MapIsCutIntoTiles whole heights widths map_of → BegunCountsOfTilesAreMaximumRises j heights widths map_of numbers_of grid → (pairs : List (ℕ × ℕ)) → AreLabelsPairedAtSeams j whole heights widths (label_of_full_map_cell heights widths numbers_of grid) pairs → (starts : List Position) × (length starts ≡ clump_count_of_tile_grid grid) × AreCellsLabelledInOrder j whole starts (label_of_full_map_cell heights widths numbers_of grid) pairs

-- numbers of the labels, applied to the numbers of the tiles, are the numbers of the full map
abbrev pub BordersGiveClumpNumbers : Type 0
BordersGiveClumpNumbers = (j : Joining) (whole : Grid) (heights widths : List ℕ) (map_of numbers_of : ℕ → ℕ → Grid) (grid : List (List BegunClumpCountsByRow)) → MapIsCutIntoTiles whole heights widths map_of → BegunCountsOfTilesAreMaximumRises j heights widths map_of numbers_of grid → (pairs : List (ℕ × ℕ)) → AreLabelsPairedAtSeams j whole heights widths (label_of_full_map_cell heights widths numbers_of grid) pairs → (number : ℕ → ℕ) → AreClumpNumbersOfLabels (clump_count_of_tile_grid grid) pairs number → (r c : ℕ) → r < length heights → c < length widths → (p : Position) (k : ℕ) → cell_at_position (numbers_of r c) p ≡ Some (pos k) → HasClumpNumber j whole (position_in_full_map (rectangle_of_tile_in_grid heights widths r c) p) (number (label_of_clump_in_tile_grid grid r c (k - 1)))

-- the full map has as many clumps as there are numbers
abbrev pub BordersGiveClumpCount : Type 0
BordersGiveClumpCount = (j : Joining) (whole : Grid) (heights widths : List ℕ) (map_of numbers_of : ℕ → ℕ → Grid) (grid : List (List BegunClumpCountsByRow)) → MapIsCutIntoTiles whole heights widths map_of → BegunCountsOfTilesAreMaximumRises j heights widths map_of numbers_of grid → (pairs : List (ℕ × ℕ)) → AreLabelsPairedAtSeams j whole heights widths (label_of_full_map_cell heights widths numbers_of grid) pairs → (n : ℕ) → IsClumpCountOfLabels (clump_count_of_tile_grid grid) pairs n → MapHasClumpCount j whole n
