-- What the frame of sums says about maps that are cut into tiles.
use Rattle.std.specs.Prelude.{ℕ, ◌≡◌, List, length}
use Rattle.std.specs.List.{AllZip}
use Rattle.cell_core.specs.Grid.{Grid}
use Rattle.cell_stats_combinations.specs.declared.skip.Skip.{Skip}
use Rattle.cell_stats_combinations.specs.Combinations.{Combination, all_combinations}
use Rattle.cell_stats_combinations.specs.LeftOut.{kept_cells}
use Rattle.cell_stats_combinations.specs.Listed.{CombinationCounts, ListsHaveSameCounts}
use Rattle.cell_stats.specs.CategoryTables.{table_of_cells}
use Rattle.cell_join_numbers.specs.TableParts.{TilesCoverMaps, TileOfMaps, combinations_of_tile}
use Rattle.rcell_pipe_join.specs.JoinEnds.{IsTableSumsResponse}
use Rattle.rcell_pipe_join.specs.TableEntries.{cell_count_of_table}

-- the entries of the table of a tile, in any order
abbrev pub AreEntriesOfTileTable : Skip → List ℕ → TileOfMaps → CombinationCounts → Type 0
AreEntriesOfTileTable skip picks part entries = ListsHaveSameCounts (table_of_cells skip
    (combinations_of_tile picks part)) entries

-- the entries are the table of the cells, and the counts add up to the number of cells that are not left out
pub record AreTableEntriesOfCells (skip : Skip) (cells : List Combination) (entries : CombinationCounts) : Type 0 where
  pub table : entries ≡ table_of_cells skip cells
  pub total : cell_count_of_table entries ≡ length (kept_cells skip cells)

-- if tiles contain each cell of maps once, and each table of the request is the table of one tile, the sums are the
-- table of the full maps
abbrev pub TablesOfTilesAddUp : Type 0
TablesOfTilesAddUp = (rows cols : ℕ) (whole : List Grid) (parts : List TileOfMaps)
    → TilesCoverMaps rows cols whole parts
    → (picks : List ℕ) (skip : Skip) (tables : List CombinationCounts)
    → AllZip (AreEntriesOfTileTable skip picks) parts tables
    → (width : ℕ) (response : List ℕ) (frame : IsTableSumsResponse width tables response)
    → AreTableEntriesOfCells skip (all_combinations whole picks rows cols) frame.sums
