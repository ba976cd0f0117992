-- Grids of tiles and tables that can be joined.
use Rattle.std.specs.Prelude.{⊤, ◌<◌, ◌^◌, All, sum_by}
use Rattle.cell_join_tiles.specs.Beginnings.{clump_count_of_tile_grid}
use Rattle.cell_join_tiles.specs.JoinedBorders.{begun_clump_counts_of_grid}
use Rattle.rcell_pipe_borders.specs.parts.RowCounts.{TilesHaveSameRowCount}
use Rattle.rcell_pipe_join.specs.JoinRequests.{JoinRequestValue, BorderGrid, TableList, PatchList, PatchTableList}
use Rattle.rcell_pipe_join.specs.PatchTables.{cell_count_of_tile_table}
use Rattle.rcell_pipe_join.specs.TableEntries.{cell_count_of_table}
use Rattle.rcell_pipe_join.specs.parts.TableCounts.{NoCountOfTileTableIsZero}
use Rattle.cell_stats_combinations.specs.Listed.{NoEntryCountIsZero}

-- the tiles of each row have one number of rows, and all tiles have fewer than 2^64 patches; no entry of a table has a
-- count of 0, and the counts of all tables add up to fewer than 2^64
abbrev pub JoinRequestCanBeJoined : JoinRequestValue → Type 0
JoinRequestCanBeJoined (BorderGrid joining grid) = All TilesHaveSameRowCount grid
    × (clump_count_of_tile_grid (begun_clump_counts_of_grid grid) < 2 ^ 64)
JoinRequestCanBeJoined (TableList width tables) = All NoEntryCountIsZero tables
    × (sum_by cell_count_of_table tables < 2 ^ 64)
JoinRequestCanBeJoined (PatchList runs parts) = ⊤
JoinRequestCanBeJoined (PatchTableList runs width tables) = All NoCountOfTileTableIsZero tables
    × (sum_by cell_count_of_tile_table tables < 2 ^ 64)
