-- What the frame of sums says about the frames of a script that runs over tiles.
use Rattle.std.specs.Prelude.{ℕ, ◌≡◌, List, Some, slice_get}
use Rattle.std.specs.List.{AllZip}
use Rattle.cell_core.specs.Shelf.{ShelfValue}
use Rattle.cell_stats_combinations.specs.Listed.{CombinationCounts, ListsHaveSameCounts}
use Rattle.rcell_script.specs.declared.statement.Statement.{Statement}
use Rattle.rcell_pipe_frames.specs.Frames.{TableFrame, OutputFrame, Table}
use Rattle.rcell_pipe_frames.specs.TileFrameLaw.{TileWithFrames, AreFramesOverTiles, entries_of_frame}
use Rattle.rcell_pipe_join.specs.JoinEnds.{IsTableSumsResponse}

-- the entries of the table at this index of a tile's frames, in any order
abbrev pub AreEntriesOfTableFrame : (index : ℕ) → TileWithFrames → CombinationCounts → Type 0
AreEntriesOfTableFrame index t entries = ListsHaveSameCounts (entries_of_frame (slice_get t.frames index)) entries

-- if a script runs over tiles that cover full maps, and each table of the request is the table of one tile, from the
-- frames at the same index, the sums are the entries of the full maps' table at this index
abbrev pub TableFramesAddUp : Type 0
TableFramesAddUp =
    (full : ShelfValue) (statements : List Statement) (frames : List OutputFrame) (tiles : List TileWithFrames)
    → AreFramesOverTiles full statements frames tiles
    → (index : ℕ) (whole : TableFrame) → slice_get frames index ≡ Some (Table whole)
    → (tables : List CombinationCounts) → AllZip (AreEntriesOfTableFrame index) tiles tables
    → (width : ℕ) (response : List ℕ) (frame : IsTableSumsResponse width tables response)
    → frame.sums ≡ whole.pairs
