-- The frames of questions about a tile give the patch numbers and measures of the tile in the full map.
use Rattle.std.specs.Prelude.{ℕ, ◌<◌, ◌≡◌, List, length, slice_get, Some, None}
use Rattle.cell_core.specs.Grid.{Grid}
use Rattle.cell_core.specs.Shelf.{ShelfValue}
use Rattle.cell_clumps.specs.declared.clump.Joining.{Joining}
use Rattle.cell_patches.specs.declared.patch.Patch.{Patch}
use Rattle.cell_patches.specs.declared.tile_position.TilePosition.{TilePosition}
use Rattle.cell_patches.specs.TilePatches.{AreMeasuresOfAllPatchesInTile, IsClumpMapOfTile, position_in_its_full_map}
use Rattle.rcell_script.specs.declared.statement.Statement.{Statement}
use Rattle.rcell_plan.specs.NeedsLaw.{IsShelfAfterStatements}
use Rattle.rcell_tile.specs.TileRunLaw.{TileRun, IsRunWithEnoughHalo, shelves_at_place}
use Rattle.rcell_pipe_request.specs.Questions.{PatchQuestionValue}
use Rattle.rcell_pipe_frames.specs.Frames.{OutputFrame}
use Rattle.rcell_pipe_response.specs.declared.frame_run.ResponseForm.TheVariants.{Frames}
use Rattle.rcell_pipe_response.specs.QuestionFrames.{AreFramesForQuestion, IsShelfMapWithName, PatchMeasuresValue}
use Rattle.rcell_pipe_response.specs.QuestionFrames.{position_of_tile, question_error_after_statements}

-- the given maps of a tile have the names of the full maps, one each
pub record HasNamesOfFullMaps (full given : ShelfValue) : Type 0 where
  pub same : given.names ≡ full.names
  pub each : length given.names ≡ length given.maps

-- `numbers` is the r.clump of the tile at this position of a full map, and these are the measures in the full map of
-- the patches with these numbers
pub record AreNumbersAndMeasuresInFullMap (joining : Joining) (whole : Grid) (position : TilePosition) (numbers : Grid)
    (depth : ℕ) (patches : List Patch) : Type 0 where
  pub clumping : IsClumpMapOfTile joining whole position numbers
  pub measures : AreMeasuresOfAllPatchesInTile whole position numbers depth patches

-- after the same statements over full maps and over a tile with enough halo, the frames of accepted questions have the
-- numbers of the tile of the full map, and the measures in the full map
abbrev pub TileQuestionsHaveFullMapMeasures : Type 0
TileQuestionsHaveFullMapMeasures =
    (full after : ShelfValue) (statements : List Statement) (run : TileRun) (questions : List PatchQuestionValue)
    → IsShelfAfterStatements full statements after → IsRunWithEnoughHalo full statements run
    → HasNamesOfFullMaps full run.given
    → question_error_after_statements Frames (shelves_at_place run.place run.given) statements questions ≡ None
    → (k : ℕ) (question : PatchQuestionValue) → slice_get questions k ≡ Some question → 0 < question.depth
    → (frames : List OutputFrame) (answer : AreFramesForQuestion run.after k question frames)
    → (measures : PatchMeasuresValue) → answer.measures ≡ Some measures
    → (whole : Grid) → IsShelfMapWithName after question.map whole
    → AreNumbersAndMeasuresInFullMap question.joining whole (position_in_its_full_map (position_of_tile run.place))
    answer.numbers question.depth measures.patches
