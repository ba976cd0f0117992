-- The responses to the requests of tiles, joined, have the frames of the full maps.
use Rattle.std.specs.Prelude.{ℕ, ◌≡◌, ◌++◌, List, All, map, slice_get, Option, Some, None, Ok}
use Rattle.std.specs.List.{AllZip, zip}
use Rattle.cell_core_devices.specs.Device.{ComingBytes}
use Rattle.cell_core.specs.Shelf.{ShelfValue}
use Rattle.cell_join_numbers.specs.Parts.{Rectangle, RectanglesCoverMap}
use Rattle.cell_stats_combinations.specs.Listed.{CombinationCounts, ListsHaveSameCounts}
use Rattle.rcell_script.specs.Scripts.{IsScript}
use Rattle.rcell_script.specs.declared.statement.Statement.{Statement}
use Rattle.rcell_tile.specs.TilePlaces.{TilePlaceValue}
use Rattle.rcell_tile.specs.TileRunLaw.{IsShelfOfTile, shelves_at_place}
use Rattle.rcell_tile.specs.TileRuns.{RunShelvesValue, shelves_of_full_maps}
use Rattle.rcell_pipe_request.specs.Questions.{PatchQuestionValue}
use Rattle.rcell_pipe_frames.specs.Frames.{OutputFrame, Table, TableFrame, StatementsGiveFrames}
use Rattle.rcell_pipe_frames.specs.FrameBytes.{response_bytes}
use Rattle.rcell_pipe_frames.specs.TileFrameLaw.{CanBeRunInTiles, FramesJoinIntoFrame, entries_of_frame}
use Rattle.rcell_pipe_response.specs.QuestionFrames.{AreFramesForAllQuestions}
use Rattle.rcell_pipe_response.specs.RunEnds.{end_frame_of_successful_run}
use Rattle.rcell_pipe_response.specs.declared.frame_run.ResponseForm.TheVariants.{Frames}
use Rattle.rcell_pipe_join.specs.JoinFrames.{one_frame_response, table_sums_bytes}
use Rattle.rcell_pipe_join.specs.JoinRequests.{TableList, join_request_or_error}
use Rattle.rcell_plan_response.specs.Responses.{IsResponseToRequestOfForm, request_form_reading, run_request_or_error}
use Rattle.rcell_plan_response.specs.declared.responding.RequestForm.TheVariants.{Run, Join}
use Rattle.rcell_plan_response.specs.declared.responding.RunForm.{RunForm}
use Rattle.rcell_plan_response.specs.declared.responding.RunForm.TheVariants.{FullMaps, Tile}

-- the request's bytes ask for a run of the script over these maps and have these questions, and the response to them
-- reports no error
pub record IsRunWithResponse (run : RunForm) (shelves : RunShelvesValue) (script : List ℕ)
    (questions : List PatchQuestionValue) (request : ComingBytes) (response : List ℕ) : Type 0 where
  pub rest : ComingBytes
  pub form : request_form_reading request ≡ Ok (Run run, rest)
  pub read : run_request_or_error run rest ≡ Ok (record { shelves = shelves; script = script; questions = questions })
  pub gives : IsResponseToRequestOfForm (request_form_reading request) response None

-- a tile: its place, its maps with their halo, its questions, and the bytes of its request and of the response
pub record TileWithResponse : Type 0 where
  pub place : TilePlaceValue
  pub given : ShelfValue
  pub questions : List PatchQuestionValue
  pub request : ComingBytes
  pub response : List ℕ

-- the tile's maps are cut out of the full maps and have their names; its request asks for a run of the script
pub record IsTileWithResponse (full : ShelfValue) (script : List ℕ) (t : TileWithResponse) : Type 0 where
  pub tile : IsShelfOfTile t.place full t.given
  pub names : t.given.names ≡ full.names
  pub run : IsRunWithResponse Tile (shelves_at_place t.place t.given) script t.questions t.request t.response

-- the tiles cover the full maps, and all commands of the script can be run in tiles
pub record AreTilesWithResponses (full : ShelfValue) (script : List ℕ) (tiles : List TileWithResponse) : Type 0 where
  pub can : (statements : List Statement) → IsScript full.names script statements
      → All (λ s. CanBeRunInTiles s.command) statements
  pub each : All (IsTileWithResponse full script) tiles
  pub covering : RectanglesCoverMap full.region.rows full.region.cols (map (λ t. t.place.tile) tiles)

-- over these maps, the statements of the script produce these frames
pub record AreFramesOfScript (shelves : RunShelvesValue) (script : List ℕ) (frames : List OutputFrame) : Type 0 where
  pub statements : List Statement
  pub denoted : IsScript shelves.outer.names script statements
  pub after : RunShelvesValue
  pub given : StatementsGiveFrames shelves statements frames after

-- the response consists of these frames of the script, the frames of the questions, and the end
pub record IsResponseWithFrames (shelves : RunShelvesValue) (script : List ℕ) (questions : List PatchQuestionValue)
    (response : List ℕ) (frames : List OutputFrame) : Type 0 where
  pub of_script : AreFramesOfScript shelves script frames
  pub answers : List OutputFrame
  pub of_questions : AreFramesForAllQuestions of_script.after 0 questions answers
  pub bytes : response ≡ response_bytes (frames ++ answers) end_frame_of_successful_run

-- the frame at this index of each tile, with the place of the tile
abbrev pub tile_frames_at_index : ℕ → List TileWithResponse → List (List OutputFrame)
    → List (Rectangle × Option OutputFrame)
tile_frames_at_index index tiles parts = map (λ t. (t.0.place.tile, slice_get t.1 index)) (zip tiles parts)

-- the request's bytes ask for the sums of these tables, and the response to them reports no error
pub record IsSumWithResponse (width : ℕ) (tables : List CombinationCounts) (request : ComingBytes)
    (response : List ℕ) : Type 0 where
  pub rest : ComingBytes
  pub form : request_form_reading request ≡ Ok (Join, rest)
  pub read : join_request_or_error rest ≡ Ok (TableList width tables)
  pub gives : IsResponseToRequestOfForm (request_form_reading request) response None

-- if a request has the tables in these frames, with their entries in any order, the response has this table's entries
abbrev pub TablesAddUpToTable : List (Option OutputFrame) → TableFrame → Type 0
TablesAddUpToTable frames table =
    (width : ℕ) (tables : List CombinationCounts) (request : ComingBytes) (response : List ℕ)
    → AllZip (λ frame entries. ListsHaveSameCounts (entries_of_frame frame) entries) frames tables
    → IsSumWithResponse width tables request response
    → response ≡ one_frame_response (table_sums_bytes width table.pairs) end_frame_of_successful_run

-- the responses of the tiles have frames: at each index, they join into the full maps' frame, and their tables add up
-- to its table
pub record ResponsesJoinIntoFrames (script : List ℕ) (tiles : List TileWithResponse) (frames : List OutputFrame)
    : Type 0 where
  pub parts : List (List OutputFrame)
  pub each : AllZip (λ t part. IsResponseWithFrames (shelves_at_place t.place t.given) script t.questions t.response
      part) tiles parts
  pub joined : (index : ℕ) → FramesJoinIntoFrame (slice_get frames index) (tile_frames_at_index index tiles parts)
  pub added : (index : ℕ) (table : TableFrame) → slice_get frames index ≡ Some (Table table)
      → TablesAddUpToTable (map (λ part. slice_get part index) parts) table

-- the responses over tiles join into the frames of full maps, also if these are too large for one request
abbrev pub TileResponsesJoinIntoFullFrames : Type 0
TileResponsesJoinIntoFullFrames =
    (full : ShelfValue) (script : List ℕ) (tiles : List TileWithResponse) → AreTilesWithResponses full script tiles
    → (frames : List OutputFrame) → AreFramesOfScript (shelves_of_full_maps full) script frames
    → ResponsesJoinIntoFrames script tiles frames

-- the responses over tiles join into the frames in the response over the full maps
abbrev pub TileResponsesJoinIntoFullResponse : Type 0
TileResponsesJoinIntoFullResponse =
    (full : ShelfValue) (script : List ℕ) (tiles : List TileWithResponse) → AreTilesWithResponses full script tiles
    → (questions : List PatchQuestionValue) (request : ComingBytes) (response : List ℕ)
    → IsRunWithResponse (FullMaps Frames) (shelves_of_full_maps full) script questions request response
    → (frames : List OutputFrame) × (IsResponseWithFrames (shelves_of_full_maps full) script questions response frames
    × ResponsesJoinIntoFrames script tiles frames)
