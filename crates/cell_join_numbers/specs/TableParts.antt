-- Tables of tiles: counts add up, and merging the tables of the tiles gives the table of the full maps.
use Rattle.std.specs.Prelude.{ℕ, ◌≡◌, ◌<◌, ◌↔◌, List, All, map, sum_by, unwrap_or}
use Rattle.std.specs.FinMap.Entries.{find}
use Rattle.std.specs.List.{Contains}
use Rattle.std.specs.List.Sorted.{IsStrictlySortedBy}
use Rattle.cell_core.specs.Grid.{Grid}
use Rattle.cell_stats_combinations.specs.declared.skip.Skip.{Skip}
use Rattle.cell_stats_combinations.specs.Combinations.{Combination, combination_cmp, all_combinations}
use Rattle.cell_stats_counts.specs.Counts.{cell_count_of_combination}
use Rattle.cell_stats.specs.CategoryTables.{CombinationsWithCounts, IsTable, table_of_cells}
use Rattle.cell_join_numbers.specs.Parts.{Rectangle, RectanglesCoverMap, MapsAreTileOfFullMaps}

-- the count of a combination in a table, or 0 if it is not listed
abbrev pub combination_count_in_table : Combination → CombinationsWithCounts → ℕ
combination_count_in_table k pairs = unwrap_or (find combination_cmp k pairs) 0

-- the merge of tables: combinations in strictly ascending order, each listed once with the sum of its counts
pub record IsMergeOfTables (tables : List CombinationsWithCounts) (merged : CombinationsWithCounts) : Type 0 where
  pub ascending : IsStrictlySortedBy combination_cmp (map (λ pair. pair.0) merged)
  pub counted : (k : Combination) (n : ℕ) → Contains merged (k, n)
      ↔ ((0 < n) × (n ≡ sum_by (combination_count_in_table k) tables))

-- a tile of several maps: a rectangle of the full maps, and the maps of its cells
pub record TileOfMaps : Type 0 where
  pub place : Rectangle
  pub maps : List Grid

-- tiles that cover maps of rows × cols cells
pub record TilesCoverMaps (rows cols : ℕ) (whole : List Grid) (parts : List TileOfMaps) : Type 0 where
  pub tiling : RectanglesCoverMap rows cols (map (λ part. part.place) parts)
  pub cells : All (λ part. MapsAreTileOfFullMaps part.place whole part.maps) parts

-- the combinations of a tile
abbrev pub combinations_of_tile : List ℕ → TileOfMaps → List Combination
combinations_of_tile picks part = all_combinations part.maps picks part.place.rows part.place.cols

-- for any tiles, the count of each combination in the full maps is the sum of its counts in the tiles
abbrev pub TileCountsAddUp : Type 0
TileCountsAddUp = (rows cols : ℕ) (whole : List Grid) (parts : List TileOfMaps) → TilesCoverMaps rows cols whole parts → (picks : List ℕ) (k : Combination) → cell_count_of_combination k (all_combinations whole picks rows cols) ≡ sum_by (λ part. cell_count_of_combination k (combinations_of_tile picks part)) parts

-- for any tiles, the table of the full maps is the merge of the tables of the tiles, and no other list is
abbrev pub MergedTileTablesAreFullTable : Type 0
MergedTileTablesAreFullTable = (rows cols : ℕ) (whole : List Grid) (parts : List TileOfMaps) → TilesCoverMaps rows cols whole parts → (picks : List ℕ) (skip : Skip) (pairs : CombinationsWithCounts) → IsMergeOfTables (map (λ part. table_of_cells skip (combinations_of_tile picks part)) parts) pairs ↔ IsTable skip (all_combinations whole picks rows cols) pairs
