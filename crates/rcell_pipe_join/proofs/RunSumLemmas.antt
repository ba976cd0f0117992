-- The sums of the tables of runs over tiles.
use Rattle.std.proofs.Common.{ℕ, Bool, List, [], ◌∷◌, All, map, length, sym, subst}
use Rattle.std.specs.List.{AllZip}
use Rattle.std.proofs.lemmas.List.Elements.{All-head, All-tail}
use Rattle.cell_core.specs.Shelf.{ShelfValue}
use Rattle.cell_stats_combinations.specs.declared.skip.Skip.{Skip}
use Rattle.cell_stats_combinations.specs.Combinations.{Combination}
use Rattle.cell_stats_combinations.specs.Listed.{CombinationCounts, ListsHaveSameCounts}
use Rattle.cell_stats.specs.CategoryTables.{table_of_cells}
use Rattle.rcell_script.specs.declared.statement.Statement.{Statement}
use Rattle.rcell_tile.specs.ClumpDependence.{MapDoesNotDependOnClump}
use Rattle.rcell_tile.specs.TileRunLaw.{TileRun, AreRunsOverTiles, IsRunWithEnoughHalo}
use Rattle.rcell_tile.proofs.TileTableLemmas.{clumps, plain_maps, plain_tile, plain-cover, same-cells}
use Rattle.rcell_tile.proofs.TileTableLemmas.{same-combinations}
use Rattle.rcell_pipe_join.specs.RunSumLaw.{AreEntriesOfRunTable, TablesOfRunsAddUp}
use Rattle.rcell_pipe_join.specs.SumLaw.{AreEntriesOfTileTable, AreTableEntriesOfCells, TablesOfTilesAddUp}

module _ (full after : ShelfValue) (statements : List Statement) (runs : List TileRun)
    (are : AreRunsOverTiles full statements after runs) (picks : List ℕ)
    (plain : All (MapDoesNotDependOnClump (length full.maps) statements) picks) (skip : Skip) where
  abbrev depends : List Bool
  depends = clumps full after statements runs are

  tile-tables : (some : List TileRun) (tables : List CombinationCounts) → All (IsRunWithEnoughHalo full statements) some
      → AllZip (AreEntriesOfRunTable skip picks) some tables
      → AllZip (AreEntriesOfTileTable skip picks) (map (plain_tile depends) some) tables
  tile-tables [] [] all each = each
  tile-tables [] (table ∷ tables) all each = absurd each
  tile-tables (run ∷ some) [] all each = absurd each
  tile-tables (run ∷ some) (table ∷ tables) all each =
      let is = All-head (IsRunWithEnoughHalo full statements) run some all in
      let cells = same-cells full after statements runs are picks plain run is in (
        subst (λ (c : List Combination). ListsHaveSameCounts (table_of_cells skip c) table) (sym cells) each.0,
        tile-tables some tables (All-tail (IsRunWithEnoughHalo full statements) run some all) each.1,
      )

pub runs-add-up : TablesOfTilesAddUp → TablesOfRunsAddUp
runs-add-up tiles full after statements runs are picks plain skip tables each width response frame =
    let depends = clumps full after statements runs are in
    subst (λ (c : List Combination). AreTableEntriesOfCells skip c frame.sums)
    (same-combinations depends after.maps picks after.region.rows after.region.cols plain)
    (tiles after.region.rows after.region.cols (plain_maps depends after.maps) (map (plain_tile depends) runs)
    (plain-cover full after statements runs are) picks skip tables
    (tile-tables full after statements runs are picks plain skip runs tables are.each each) width response frame)
