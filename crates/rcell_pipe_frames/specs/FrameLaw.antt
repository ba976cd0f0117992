-- The frames of a script are its output: their text is what rcell prints for the same maps.
use Rattle.std.specs.Prelude.{ℕ, ◌≡◌, List, flat_map}
use Rattle.cell_core.specs.Shelf.{ShelfValue}
use Rattle.rcell_script.specs.declared.statement.Statement.{Statement}
use Rattle.rcell.specs.Output.{StatementsWriteTextAndLeaveShelf}
use Rattle.rcell_tile.specs.TileRuns.{shelves_of_full_maps}
use Rattle.rcell_pipe_frames.specs.Frames.{OutputFrame, frame_text, StatementsGiveFrames}

-- if statements over a shelf produce frames, rcell prints the frames' text and leaves the same shelf
abbrev pub FrameTextsAreProgramOutput : Type 0
FrameTextsAreProgramOutput = (shelf : ShelfValue) (statements : List Statement) (frames : List OutputFrame)
    (after : ShelfValue)
    → StatementsGiveFrames (shelves_of_full_maps shelf) statements frames (shelves_of_full_maps after)
    → StatementsWriteTextAndLeaveShelf shelf statements (flat_map frame_text frames) after

-- conversely, any text that rcell prints is the text of frames
abbrev pub ProgramOutputIsTextOfFrames : Type 0
ProgramOutputIsTextOfFrames = (shelf : ShelfValue) (statements : List Statement) (text : List ℕ) (after : ShelfValue)
    → StatementsWriteTextAndLeaveShelf shelf statements text after → (frames : List OutputFrame) ×
    (StatementsGiveFrames (shelves_of_full_maps shelf) statements frames (shelves_of_full_maps after)
    × (text ≡ flat_map frame_text frames))
