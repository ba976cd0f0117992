-- What the frame of the sums of patch tables says about maps that are cut into tiles.
use Rattle.std.specs.Prelude.{ℕ, suc, pos, ◌≡◌, ◌<◌, List, ◌∷◌, Option, All, flat_map, length, map, sum}
use Rattle.std.specs.List.{AllZip}
use Rattle.std.specs.Option.{option_map}
use Rattle.cell_core.specs.Grid.{Grid}
use Rattle.cell_clumps.specs.declared.clump.Joining.{Joining}
use Rattle.cell_clumps.specs.Clumps.{IsClumpMapOf}
use Rattle.cell_stats_combinations.specs.declared.skip.Skip.{Skip}
use Rattle.cell_stats_combinations.specs.Combinations.{Combination, all_combinations}
use Rattle.cell_stats_combinations.specs.LeftOut.{kept_cells}
use Rattle.cell_stats_combinations.specs.Listed.{CombinationCounts, ListsHaveSameCounts}
use Rattle.cell_stats.specs.CategoryTables.{table_of_cells}
use Rattle.cell_join_numbers.specs.Parts.{Rectangle, RectanglesCoverMap, MapsAreTileOfFullMaps}
use Rattle.cell_join_patches.specs.TileGridLaw.{tile_number_in_grid}
use Rattle.cell_join_tiles.specs.Beginnings.{MapIsCutIntoTiles, rectangle_of_tile_in_grid}
use Rattle.cell_join_tiles.specs.JoinedBorders.{TilesHaveBorders}
use Rattle.cell_join_tiles.specs.Values.{TileBorderValue}
use Rattle.rcell_pipe_join.specs.JoinEnds.{IsPatchSumsResponse, IsTileNumberingResponse}
use Rattle.rcell_pipe_join.specs.PatchTables.{TileTable}
use Rattle.rcell_pipe_join.specs.TableEntries.{cell_count_of_table}

-- ---- tiles

-- a tile of a grid: its row and column in the grid, and its maps, without the map of its patches
pub record TileInTileGrid : Type 0 where
  pub row : ℕ
  pub col : ℕ
  pub others : List Grid

abbrev pub tile_rectangle_in_grid : (heights widths : List ℕ) → TileInTileGrid → Rectangle
tile_rectangle_in_grid heights widths t = rectangle_of_tile_in_grid heights widths t.row t.col

-- the tile is in the grid, and its maps have the cells of the full maps
pub record IsTileInTileGrid (heights widths : List ℕ) (others : List Grid) (t : TileInTileGrid) : Type 0 where
  pub in_rows : t.row < length heights
  pub in_cols : t.col < length widths
  pub part : MapsAreTileOfFullMaps (tile_rectangle_in_grid heights widths t) others t.others

-- the tiles of a grid, in any order
pub record AreAllTilesOfTileGrid (heights widths : List ℕ) (others : List Grid)
    (tiles : List TileInTileGrid) : Type 0 where
  pub tiling : RectanglesCoverMap (sum heights) (sum widths) (map (tile_rectangle_in_grid heights widths) tiles)
  pub each : All (IsTileInTileGrid heights widths others) tiles

-- ---- tables

-- the number of each cell's patch, with the cells of picked other maps
abbrev pub combinations_with_patch_number : Grid → List Grid → List ℕ → (rows cols : ℕ) → List Combination
combinations_with_patch_number numbers others picks rows cols =
    all_combinations (numbers ∷ others) (0 ∷ map suc picks) rows cols

-- the same for the cells of a tile
abbrev pub combinations_of_tile_with_patch : (heights widths : List ℕ) → (ℕ → ℕ → Grid) → List ℕ → TileInTileGrid
    → List Combination
combinations_of_tile_with_patch heights widths numbers_of picks t =
    combinations_with_patch_number (numbers_of t.row t.col) t.others picks
    (tile_rectangle_in_grid heights widths t).rows
    (tile_rectangle_in_grid heights widths t).cols

-- the tile's index, and the entries of its table, in any order; the first cell of each entry is the number of its patch
-- in the tile
pub record IsTableOfTileInTileGrid (heights widths : List ℕ) (numbers_of : ℕ → ℕ → Grid) (picks : List ℕ) (skip : Skip)
    (t : TileInTileGrid) (table : TileTable) : Type 0 where
  pub tile : table.0 ≡ tile_number_in_grid (length widths) t.row t.col
  pub counts : ListsHaveSameCounts (table_of_cells skip (combinations_of_tile_with_patch heights widths numbers_of picks
      t)) table.1

-- the entries of sums, with the number of the patch in the full map as the first cell; null is outside patches
abbrev pub entries_with_patch_number : List (Option ℕ × CombinationCounts) → CombinationCounts
entries_with_patch_number sums = flat_map (λ s. map (λ entry. (option_map pos s.0 ∷ entry.0, entry.1)) s.1) sums

-- the sums have the count of each combination in the table of the cells, and the counts add up to the number of cells
-- that are not left out
pub record AreTableSumsOfCells (skip : Skip) (cells : List Combination)
    (sums : List (Option ℕ × CombinationCounts)) : Type 0 where
  pub counts : ListsHaveSameCounts (table_of_cells skip cells) (entries_with_patch_number sums)
  pub total : cell_count_of_table (entries_with_patch_number sums) ≡ length (kept_cells skip cells)

-- ---- the law

-- if patch tables of all tiles are sent with the runs of the tiles' numbering, the sums are the table of the full maps,
-- with the numbers of the full map's patches
abbrev pub PatchTablesAddUp : Type 0
PatchTablesAddUp = (j : Joining) (grid : List (List TileBorderValue)) (joined : List ℕ)
    → (numbering : IsTileNumberingResponse j grid joined)
    → (m : Grid) (heights widths : List ℕ) (map_of numbers_of : ℕ → ℕ → Grid)
    → MapIsCutIntoTiles m heights widths map_of → TilesHaveBorders j heights widths map_of numbers_of grid
    → (numbers : Grid) → IsClumpMapOf j m numbers
    → (others : List Grid) (tiles : List TileInTileGrid) → AreAllTilesOfTileGrid heights widths others tiles
    → (picks : List ℕ) (skip : Skip) (tables : List TileTable)
    → AllZip (IsTableOfTileInTileGrid heights widths numbers_of picks skip) tiles tables
    → (width : ℕ) (response : List ℕ) (frame : IsPatchSumsResponse numbering.runs width tables response)
    → AreTableSumsOfCells skip (combinations_with_patch_number numbers others picks (sum heights)
    (sum widths)) frame.sums
