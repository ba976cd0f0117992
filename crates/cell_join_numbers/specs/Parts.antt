-- Tiles of maps: the cells of a rectangle, as maps of their own (the regions and labels of tiles do not matter here).
use Rattle.std.specs.Prelude.{ℕ, Bool, ◌&&◌, nat_le, nat_lt, ◌≡◌, ◌≤◌, ◌<◌, ◌+◌, List, [], ◌∷◌, All, count_by, sum, map, flat_map, take, drop}
use Rattle.cell_core.specs.Grid.{Grid, CellValue}
use Rattle.cell_stats_combinations.specs.Combinations.{cell_of_map_at_place}

-- a rectangle of cells: its first row and column, and its numbers of rows and columns
pub record Rectangle : Type 0 where
  pub top : ℕ
  pub left : ℕ
  pub rows : ℕ
  pub cols : ℕ

-- the cell at this row and column is inside the rectangle
abbrev pub cell_is_in_rectangle : Rectangle → ℕ → ℕ → Bool
cell_is_in_rectangle r row col = (nat_le r.top row && nat_lt row (r.top + r.rows)) && (nat_le r.left col && nat_lt col (r.left + r.cols))

-- the rectangles cover rows × cols cells: each cell is in exactly one, and none reaches outside
pub record RectanglesCoverMap (rows cols : ℕ) (places : List Rectangle) : Type 0 where
  pub within : All (λ r. (r.top + r.rows ≤ rows) × (r.left + r.cols ≤ cols)) places
  pub once : (row col : ℕ) → row < rows → col < cols → count_by (λ r. cell_is_in_rectangle r row col) places ≡ 1

-- consecutive intervals of these lengths, beginning at `from`: the start and length of each
abbrev pub consecutive_intervals_of_lengths : ℕ → List ℕ → List (ℕ × ℕ)
consecutive_intervals_of_lengths from [] = []
consecutive_intervals_of_lengths from (n ∷ lengths) = (from, n) ∷ consecutive_intervals_of_lengths (from + n) lengths

-- the rectangles of a grid with these row heights and column widths, row by row
abbrev pub tile_rectangles_of_grid : (heights widths : List ℕ) → List Rectangle
tile_rectangles_of_grid heights widths = flat_map (λ h. map (λ w. record { top = h.0; left = w.0; rows = h.1; cols = w.1 }) (consecutive_intervals_of_lengths 0 widths)) (consecutive_intervals_of_lengths 0 heights)

-- for any heights and widths, each cell is in exactly one rectangle of the grid
abbrev pub TileGridCoversEachCellOnce : Type 0
TileGridCoversEachCellOnce = (heights widths : List ℕ) → RectanglesCoverMap (sum heights) (sum widths)
    (tile_rectangles_of_grid heights widths)

-- the maps `part` have the cells of the full maps in the rectangle
abbrev pub MapsAreTileOfFullMaps : Rectangle → (whole part : List Grid) → Type 0
MapsAreTileOfFullMaps r whole part = (row col place : ℕ) → row < r.rows → col < r.cols → cell_of_map_at_place part row col place ≡ cell_of_map_at_place whole (r.top + row) (r.left + col) place

-- the cells of the rectangle, row by row
abbrev pub cells_of_rectangle : Rectangle → List (List CellValue) → List (List CellValue)
cells_of_rectangle r rows = map (λ row. take r.cols (drop r.left row)) (take r.rows (drop r.top rows))

-- the rows of the maps `part` are cut out of the full maps
abbrev pub RowsAreCutOutOfMaps : Rectangle → (whole part : List Grid) → Type 0
RowsAreCutOutOfMaps r whole part = map (λ m. m.rows) part ≡ map (λ m. cells_of_rectangle r m.rows) whole

-- cutting a rectangle out of maps produces a tile of them
abbrev pub CuttingMapsMakesTiles : Type 0
CuttingMapsMakesTiles = (r : Rectangle) (whole part : List Grid) → RowsAreCutOutOfMaps r whole part
    → MapsAreTileOfFullMaps r whole part
