-- Running statements over tiles gives the full maps' cells and tables, if the halo is enough, for all maps that do not
-- depend on an r.clump.
use Rattle.std.specs.Prelude.{ℕ, ◌≡◌, ◌↔◌, false, List, length, All, map, Option, Some, None, slice_get}
use Rattle.std.specs.Option.{option_map}
use Rattle.cell_core.specs.Grid.{Grid, RowsFillRegion}
use Rattle.cell_core.specs.Shelf.{ShelfValue}
use Rattle.cell_stats_combinations.specs.Combinations.{shelf_combinations}
use Rattle.cell_stats_combinations.specs.declared.skip.Skip.{Skip}
use Rattle.cell_stats.specs.CategoryTables.{CombinationsWithCounts, IsTable, table_of_cells}
use Rattle.cell_join_numbers.specs.Parts.{Rectangle, RectanglesCoverMap, RowsAreCutOutOfMaps, cells_of_rectangle}
use Rattle.cell_join_numbers.specs.TableParts.{TileOfMaps, TilesCoverMaps, IsMergeOfTables}
use Rattle.rcell_script.specs.declared.statement.Statement.{Statement}
use Rattle.rcell_plan.specs.NeedsLaw.{IsShelfAfterStatements}
use Rattle.rcell_tile.specs.ClumpDependence.{MapDoesNotDependOnClump}
use Rattle.rcell_tile.specs.HaloMargins.{command_is_clump, first_halo_fault}
use Rattle.rcell_tile.specs.TileMaps.{IsPlaceOfMaps}
use Rattle.rcell_tile.specs.TilePlaces.{TilePlaceValue}
use Rattle.rcell_tile.specs.TileRuns.{RunShelvesValue, inner_shelf, AreShelvesAfterStatements}

-- the maps on the shelf are cut out of the full maps, at the place of the tile with its halo
pub record IsShelfOfTile (p : TilePlaceValue) (full shelf : ShelfValue) : Type 0 where
  pub place : IsPlaceOfMaps p shelf.region
  pub rows : full.region.rows ≡ p.rows
  pub cols : full.region.cols ≡ p.cols
  pub filled : All (λ m. RowsFillRegion full.region m.rows) full.maps
  pub cells : RowsAreCutOutOfMaps p.outer full.maps shelf.maps

-- a shelf of a tile with its halo, as the maps of a run
abbrev pub shelves_at_place : TilePlaceValue → ShelfValue → RunShelvesValue
shelves_at_place p shelf = record { outer = shelf; place = Some p }

-- a map of a tile is cut out of a full map, or there is neither
abbrev pub MapIsCutOutOfFullMap : Rectangle → (whole part : Option Grid) → Type 0
MapIsCutOutOfFullMap r whole part =
    option_map (λ m. m.rows) part ≡ option_map (λ m. cells_of_rectangle r m.rows) whole

-- a run over a tile: its place, its given maps with their halo, and its maps after the statements
pub record TileRun : Type 0 where
  pub place : TilePlaceValue
  pub given : ShelfValue
  pub after : RunShelvesValue

-- the statements were executed over a tile of the full maps with enough halo
pub record IsRunWithEnoughHalo (full : ShelfValue) (statements : List Statement) (run : TileRun) : Type 0 where
  pub tile : IsShelfOfTile run.place full run.given
  pub enough : first_halo_fault run.place (length run.given.maps) statements ≡ None
  pub executed : AreShelvesAfterStatements (shelves_at_place run.place run.given) statements run.after

-- after the same statements over full maps and over a tile with enough halo, each map of the tile is cut out of the
-- full map, if it does not depend on an r.clump
abbrev pub TileRunsHaveFullMapCells : Type 0
TileRunsHaveFullMapCells =
    (full after : ShelfValue) (statements : List Statement) (run : TileRun)
    → IsShelfAfterStatements full statements after → IsRunWithEnoughHalo full statements run
    → (place : ℕ) → MapDoesNotDependOnClump (length full.maps) statements place
    → MapIsCutOutOfFullMap run.place.tile (slice_get after.maps place) (slice_get (inner_shelf run.after).maps place)

-- no statement is r.clump
abbrev pub NoStatementIsClump : List Statement → Type 0
NoStatementIsClump statements = All (λ s. command_is_clump s.command ≡ false) statements

-- without r.clump, all maps of the tile are cut out of the full maps
abbrev pub TilesWithoutClumpAreCutOut : Type 0
TilesWithoutClumpAreCutOut =
    (full after : ShelfValue) (statements : List Statement) (run : TileRun)
    → IsShelfAfterStatements full statements after → IsRunWithEnoughHalo full statements run
    → NoStatementIsClump statements
    → RowsAreCutOutOfMaps run.place.tile after.maps (inner_shelf run.after).maps

-- the same statements were executed over full maps and over tiles that cover them
pub record AreRunsOverTiles (full : ShelfValue) (statements : List Statement) (after : ShelfValue)
    (runs : List TileRun) : Type 0 where
  pub whole : IsShelfAfterStatements full statements after
  pub each : All (IsRunWithEnoughHalo full statements) runs
  pub covering : RectanglesCoverMap full.region.rows full.region.cols (map (λ run. run.place.tile) runs)

-- the maps of a tile without halo, after the statements
abbrev pub tile_after_run : TileRun → TileOfMaps
tile_after_run run = record { place = run.place.tile; maps = (inner_shelf run.after).maps }

-- after runs over tiles that cover the full maps, the tiles cover the maps that a run over the full maps makes, if no
-- statement is r.clump
abbrev pub TilesAfterRunsCoverFullMaps : Type 0
TilesAfterRunsCoverFullMaps =
    (full after : ShelfValue) (statements : List Statement) (runs : List TileRun)
    → AreRunsOverTiles full statements after runs → NoStatementIsClump statements
    → TilesCoverMaps after.region.rows after.region.cols after.maps (map tile_after_run runs)

-- for maps that do not depend on an r.clump, the merge of the tables of all tiles is the table of the full maps, and no
-- other list is
abbrev pub TablesAfterRunsMergeIntoFullTable : Type 0
TablesAfterRunsMergeIntoFullTable =
    (full after : ShelfValue) (statements : List Statement) (runs : List TileRun)
    → AreRunsOverTiles full statements after runs
    → (picks : List ℕ) → All (MapDoesNotDependOnClump (length full.maps) statements) picks
    → (skip : Skip) (pairs : CombinationsWithCounts)
    → IsMergeOfTables (map (λ run. table_of_cells skip (shelf_combinations (inner_shelf run.after) picks)) runs) pairs
    ↔ IsTable skip (shelf_combinations after picks) pairs
