-- The frames of tiles, joined, are the frames of the full maps: grids cell by cell, and tables entry by entry.
use Rattle.std.specs.Prelude.{ℕ, ◌≡◌, ◌↔◌, false, List, [], length, All, map, slice_get, Option, Some, None}
use Rattle.cell_core.specs.Shelf.{ShelfValue}
use Rattle.cell_stats.specs.CategoryTables.{CombinationsWithCounts}
use Rattle.cell_join_numbers.specs.Merging.{AreAscendingNonzeroEntries}
use Rattle.cell_join_numbers.specs.Parts.{Rectangle, RectanglesCoverMap, cells_of_rectangle}
use Rattle.cell_join_numbers.specs.TableParts.{IsMergeOfTables}
use Rattle.rcell_script.specs.FittingScripts.{StatementsFitKnownMaps}
use Rattle.rcell_script.specs.declared.command.Command.{Command}
use Rattle.rcell_script.specs.declared.command.Command.TheVariants.{Mapcalc, Reclass, Clump, Stats, OutAscii}
use Rattle.rcell_script.specs.declared.statement.Statement.{Statement}
use Rattle.rcell_tile.specs.PlannedHalo.{TileHasHalo, planned_halo}
use Rattle.rcell_tile.specs.TilePlaces.{TilePlaceValue}
use Rattle.rcell_tile.specs.TileRunLaw.{IsShelfOfTile, shelves_at_place}
use Rattle.rcell_tile.specs.TileRuns.{RunShelvesValue, shelves_of_full_maps}
use Rattle.rcell_pipe_frames.specs.Frames.{TableFrame, GridFrame, OutputFrame, Table, Map, StatementsGiveFrames}

-- the command is not r.clump, and tables contain all entries, without labels
abbrev pub CanBeRunInTiles : Command → Type 0
CanBeRunInTiles (Mapcalc target bound) = Unit {0}
CanBeRunInTiles (Reclass place target rules) = Unit {0}
CanBeRunInTiles (Clump place target joining) = ⊥
CanBeRunInTiles (Stats places options) =
    (options.labels ≡ false) × ((options.cells ≡ false) × (options.after ≡ None))
CanBeRunInTiles (OutAscii place null_text) = Unit {0}

-- a script over a tile: the tile's place, its given maps with their halo, its frames, and its maps after the script
pub record TileWithFrames : Type 0 where
  pub place : TilePlaceValue
  pub given : ShelfValue
  pub frames : List OutputFrame
  pub after : RunShelvesValue

-- the tile is cut out of the full maps with the planned halo, and the statements produce its frames
pub record AreFramesOfTile (full : ShelfValue) (statements : List Statement) (t : TileWithFrames) : Type 0 where
  pub tile : IsShelfOfTile t.place full t.given
  pub names : t.given.names ≡ full.names
  pub halo : TileHasHalo t.place (planned_halo (length full.names) statements)
  pub frames : StatementsGiveFrames (shelves_at_place t.place t.given) statements t.frames t.after

-- statements that fit the full maps produce `frames` over them, and run over tiles that cover them
pub record AreFramesOverTiles (full : ShelfValue) (statements : List Statement) (frames : List OutputFrame)
    (tiles : List TileWithFrames) : Type 0 where
  pub named : length full.names ≡ length full.maps
  pub fits : StatementsFitKnownMaps full.names statements
  pub can : All (λ s. CanBeRunInTiles s.command) statements
  pub after : ShelfValue
  pub whole : StatementsGiveFrames (shelves_of_full_maps full) statements frames (shelves_of_full_maps after)
  pub each : All (AreFramesOfTile full statements) tiles
  pub covering : RectanglesCoverMap full.region.rows full.region.cols (map (λ t. t.place.tile) tiles)

-- the grid of a tile is cut out of the full map's grid
pub record GridIsCutOut (r : Rectangle) (whole part : GridFrame) : Type 0 where
  pub line : part.line ≡ whole.line
  pub null_text : part.null_text ≡ whole.null_text
  pub name : part.name ≡ whole.name
  pub rows : part.rows ≡ r.rows
  pub cols : part.cols ≡ r.cols
  pub cells : part.cells ≡ cells_of_rectangle r whole.cells

-- two tables of the same statement
pub record TablesAreOfSameStatement (whole part : TableFrame) : Type 0 where
  pub line : part.line ≡ whole.line
  pub format : part.format ≡ whole.format
  pub names : part.names ≡ whole.names

-- a frame of a tile belongs to a frame of the full maps, or there is neither
abbrev pub FrameIsPartOfFrame : Rectangle → (whole part : Option OutputFrame) → Type 0
FrameIsPartOfFrame r None None = Unit {0}
FrameIsPartOfFrame r (Some (Map grid)) (Some (Map part)) = GridIsCutOut r grid part
FrameIsPartOfFrame r (Some (Table table)) (Some (Table part)) = TablesAreOfSameStatement table part
FrameIsPartOfFrame r whole part = ⊥

-- the entries of a frame, if it is a table
abbrev pub entries_of_frame : Option OutputFrame → CombinationsWithCounts
entries_of_frame (Some (Table table)) = table.pairs
entries_of_frame frame = []

-- the tables list combinations in order; their merge is `whole`, and no other list is
pub record TablesMergeIntoTable (whole : CombinationsWithCounts) (tables : List CombinationsWithCounts)
    : Type 0 where
  pub listed : All AreAscendingNonzeroEntries tables
  pub merge : (pairs : CombinationsWithCounts) → IsMergeOfTables tables pairs ↔ (pairs ≡ whole)

-- if the frame is a table, the tables of the tiles merge into it
abbrev pub TablesMergeIntoFrame : (whole : Option OutputFrame) → (parts : List (Option OutputFrame)) → Type 0
TablesMergeIntoFrame (Some (Table table)) parts = TablesMergeIntoTable table.pairs (map entries_of_frame parts)
TablesMergeIntoFrame whole parts = Unit {0}

-- a frame of the full maps and the frames of the tiles, with the place of each: every grid is cut out, and tables merge
pub record FramesJoinIntoFrame (whole : Option OutputFrame) (parts : List (Rectangle × Option OutputFrame))
    : Type 0 where
  pub each : All (λ part. FrameIsPartOfFrame part.0 whole part.1) parts
  pub tables : TablesMergeIntoFrame whole (map (λ part. part.1) parts)

-- the frame at this index of each tile
abbrev pub frames_at_index : ℕ → List TileWithFrames → List (Rectangle × Option OutputFrame)
frames_at_index index tiles = map (λ t. (t.place.tile, slice_get t.frames index)) tiles

-- at each index, the frames of the tiles join into the frame of the full maps
abbrev pub TileFramesJoinIntoFullFrames : Type 0
TileFramesJoinIntoFullFrames =
    (full : ShelfValue) (statements : List Statement) (frames : List OutputFrame) (tiles : List TileWithFrames)
    → AreFramesOverTiles full statements frames tiles
    → (index : ℕ) → FramesJoinIntoFrame (slice_get frames index) (frames_at_index index tiles)
