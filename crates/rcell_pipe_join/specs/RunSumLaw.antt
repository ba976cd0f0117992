-- What the frame of sums says about a script that runs over tiles.
use Rattle.std.specs.Prelude.{ℕ, List, length, All}
use Rattle.std.specs.List.{AllZip}
use Rattle.cell_core.specs.Shelf.{ShelfValue}
use Rattle.cell_stats_combinations.specs.Combinations.{shelf_combinations}
use Rattle.cell_stats_combinations.specs.declared.skip.Skip.{Skip}
use Rattle.cell_stats_combinations.specs.Listed.{CombinationCounts, ListsHaveSameCounts}
use Rattle.cell_stats.specs.CategoryTables.{table_of_cells}
use Rattle.rcell_script.specs.declared.statement.Statement.{Statement}
use Rattle.rcell_tile.specs.ClumpDependence.{MapDoesNotDependOnClump}
use Rattle.rcell_tile.specs.TileRunLaw.{TileRun, AreRunsOverTiles}
use Rattle.rcell_tile.specs.TileRuns.{inner_shelf}
use Rattle.rcell_pipe_join.specs.JoinEnds.{IsTableSumsResponse}
use Rattle.rcell_pipe_join.specs.SumLaw.{AreTableEntriesOfCells}

-- the entries of the table of a tile after a run, in any order
abbrev pub AreEntriesOfRunTable : Skip → List ℕ → TileRun → CombinationCounts → Type 0
AreEntriesOfRunTable skip picks run entries = ListsHaveSameCounts (table_of_cells skip
    (shelf_combinations (inner_shelf run.after) picks)) entries

-- if a script ran over tiles that cover full maps, with enough halo, and each table of the request is the table of one
-- tile, the sums are the table of the full maps after the script, for maps that do not depend on an r.clump
abbrev pub TablesOfRunsAddUp : Type 0
TablesOfRunsAddUp = (full after : ShelfValue) (statements : List Statement) (runs : List TileRun)
    → AreRunsOverTiles full statements after runs
    → (picks : List ℕ) → All (MapDoesNotDependOnClump (length full.maps) statements) picks
    → (skip : Skip) (tables : List CombinationCounts) → AllZip (AreEntriesOfRunTable skip picks) runs tables
    → (width : ℕ) (response : List ℕ) (frame : IsTableSumsResponse width tables response)
    → AreTableEntriesOfCells skip (shelf_combinations after picks) frame.sums
