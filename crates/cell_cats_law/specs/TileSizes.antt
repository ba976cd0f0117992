-- Sizes and tables of clump numbers, for tiles that contain each cell of a map once.
use Rattle.std.specs.Prelude.{ℕ, pos, ◌-◌, ◌≡◌, ◌↔◌, List, [], ◌∷◌, map, flat_map, length, All, Some, None, sum_by}
use Rattle.std.specs.Prelude.{slice_index}
use Rattle.std.specs.List.{AllZip}
use Rattle.cell_core.specs.Grid.{Grid, RowsFillRegion}
use Rattle.cell_clumps.specs.declared.clump.Joining.{Joining}
use Rattle.cell_clumps.specs.Clumps.{Position, cell_at_position, HasClumpNumber, IsClumpMapOf}
use Rattle.cell_stats_combinations.specs.declared.skip.Skip.{Skip}
use Rattle.cell_stats.specs.CategoryTables.{CombinationsWithCounts, IsTable}
use Rattle.cell_cats_law.specs.ClumpSizeLaw.{one_cell_combinations}
use Rattle.cell_join_numbers.specs.Parts.{Rectangle, RectanglesCoverMap}
use Rattle.cell_join_numbers.specs.ClumpParts.{IsTileOfFullMap, NumberedTile, position_in_full_map}
use Rattle.cell_join_numbers.specs.TableParts.{combination_count_in_table}
use Rattle.cell_join_numbers.specs.Labelled.{MapHasClumpCount}
use Rattle.cell_cats_law.specs.SummedSizes.{ClumpSizesAddUp}
use Rattle.cell_cats_law.specs.SizeLaw.{sizes_of_numbered_clumps}
use Rattle.cell_cats_law.specs.NumberTables.{table_of_clump_sizes, clump_sizes_in_table}

-- a tile with its clump numbers, and the full map's number for each of its clumps
pub record TileWithFullMapNumbers : Type 0 where
  pub numbered : NumberedTile
  pub there : List ℕ

abbrev pub rectangle_of_tile : TileWithFullMapNumbers → Rectangle
rectangle_of_tile t = t.numbered.tile.place

-- a tile whose clumps have the listed numbers in the full map
pub record IsTileWithFullMapNumbers (j : Joining) (whole : Grid) (t : TileWithFullMapNumbers) : Type 0 where
  pub cells : IsTileOfFullMap whole t.numbered.tile
  pub clumping : IsClumpMapOf j t.numbered.tile.map t.numbered.numbers
  pub clumps : MapHasClumpCount j t.numbered.tile.map (length t.there)
  pub reports : (p : Position) (k : ℕ) → cell_at_position t.numbered.numbers p ≡ Some (pos k)
      → HasClumpNumber j whole (position_in_full_map (rectangle_of_tile t) p) (slice_index t.there (k - 1))

-- the tiles contain each of the map's `rows` × `cols` cells exactly once
pub record TilesCoverMapOnce (j : Joining) (whole : Grid) (rows cols : ℕ)
    (tiles : List TileWithFullMapNumbers) : Type 0 where
  pub tiling : RectanglesCoverMap rows cols (map rectangle_of_tile tiles)
  pub joined : All (IsTileWithFullMapNumbers j whole) tiles

-- the numbers of all tiles, one tile after the other
abbrev pub full_map_numbers_of_tile_clumps : List TileWithFullMapNumbers → List ℕ
full_map_numbers_of_tile_clumps tiles = flat_map (λ t. t.there) tiles

-- the clump sizes of a tile
abbrev pub clump_sizes_of_tile : TileWithFullMapNumbers → List ℕ
clump_sizes_of_tile t =
    sizes_of_numbered_clumps (length t.there) t.numbered.numbers (rectangle_of_tile t).rows (rectangle_of_tile t).cols

-- the tiles' sizes, added up, are the clump sizes of the full map
abbrev pub TileClumpSizesAddUp : Type 0
TileClumpSizesAddUp = (j : Joining) (whole : Grid) (rows cols : ℕ) (tiles : List TileWithFullMapNumbers)
    → TilesCoverMapOnce j whole rows cols tiles → (numbered : Grid) → IsClumpMapOf j whole numbered
    → (clumps : ℕ) (sizes : List ℕ) → ClumpSizesAddUp (full_map_numbers_of_tile_clumps tiles)
    (flat_map clump_sizes_of_tile tiles) clumps sizes
    → sizes ≡ sizes_of_numbered_clumps clumps numbered rows cols

-- the table of the tile's clump numbers
abbrev pub IsTableOfTileClumps : Skip → TileWithFullMapNumbers → CombinationsWithCounts → Type 0
IsTableOfTileClumps skip t table =
    IsTable skip (one_cell_combinations t.numbered.numbers (rectangle_of_tile t).rows (rectangle_of_tile t).cols) table

-- the sizes in the tiles' tables, added up, are the table of the full map's clump numbers
abbrev pub TileTablesAddUpToFullTable : Type 0
TileTablesAddUpToFullTable = (j : Joining) (whole : Grid) (tiles : List TileWithFullMapNumbers)
    → TilesCoverMapOnce j whole whole.region.rows whole.region.cols tiles → RowsFillRegion whole.region whole.rows
    → (skip : Skip) (tables : List CombinationsWithCounts) → AllZip (IsTableOfTileClumps skip) tiles tables
    → (clumps : ℕ) → MapHasClumpCount j whole clumps → (sizes : List ℕ)
    → ClumpSizesAddUp (full_map_numbers_of_tile_clumps tiles) (flat_map clump_sizes_in_table tables) clumps sizes
    → (numbered : Grid) → IsClumpMapOf j whole numbered
    → (table : CombinationsWithCounts) → IsTable skip (one_cell_combinations numbered whole.region.rows
    whole.region.cols) table
    ↔ (table ≡ table_of_clump_sizes skip sizes (sum_by (combination_count_in_table (None ∷ [])) tables))
