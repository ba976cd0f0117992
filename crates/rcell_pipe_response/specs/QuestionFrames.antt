-- The frames for questions about the maps at the end of a script, and the questions that are rejected (profile).
use Rattle.std.specs.Prelude.{ℕ, ◌+◌, ◌≡◌, Bool, true, false, ◌||◌, ◌&&◌, List, [], ◌∷◌, ◌++◌, length, slice_get}
use Rattle.std.specs.Prelude.{Option, Some, None, if◌then◌else◌}
use Rattle.std.specs.Option.{is_none, option_map}
use Rattle.cell_core_values.specs.Name.{place_of_name}
use Rattle.cell_core_values.specs.Region.{RegionValue}
use Rattle.cell_core.specs.Grid.{Grid, CellValue}
use Rattle.cell_core.specs.Shelf.{ShelfValue}
use Rattle.cell_clumps.specs.Clumps.{IsClumpMapOf}
use Rattle.cell_clumps.specs.declared.clump.Joining.{Joining}
use Rattle.cell_join_tiles.specs.JoinedBorders.{TileHasBorder}
use Rattle.cell_join_tiles.specs.Values.{TileBorderValue, TileBorderHasSize}
use Rattle.cell_patches.specs.declared.patch.Patch.{Patch}
use Rattle.cell_patches.specs.declared.tile_position.TilePosition.{TilePosition}
use Rattle.cell_patches.specs.Patches.{AreMeasuresOfAllPatches}
use Rattle.cell_patches.specs.TilePatches.{AreMeasuresOfAllPatchesInTile}
use Rattle.cell_patches.specs.Zones.{AreMainZones}
use Rattle.rcell_script.specs.KnownMaps.{known_names_after_command}
use Rattle.rcell_script.specs.declared.statement.Statement.{Statement}
use Rattle.rcell_tile.specs.TilePlaces.{TilePlaceValue}
use Rattle.rcell_tile.specs.TileMaps.{halo_rows_above, halo_columns_left}
use Rattle.rcell_tile.specs.TileRuns.{RunShelvesValue, inner_shelf}
use Rattle.rcell_tile.specs.HaloMargins.{depth_exceeds_margin, margins_of_maps}
use Rattle.rcell_tile.specs.declared.halo_margins.HaloMargin.{HaloMargin}
use Rattle.rcell_pipe_request.specs.Questions.{PatchQuestionValue}
use Rattle.rcell_pipe_response.specs.declared.frame_run.ResponseForm.{ResponseForm}
use Rattle.rcell_pipe_response.specs.declared.frame_run.ResponseForm.TheVariants.{Frames, Text}
use Rattle.rcell_pipe_response.specs.declared.question_error.QuestionErrorKind.{QuestionErrorKind}
use Rattle.rcell_pipe_response.specs.declared.question_error.QuestionErrorKind.TheVariants.{UnknownMap, HaloTooSmall}
use Rattle.rcell_pipe_response.specs.declared.question_error.QuestionErrorKind.TheVariants.{OfText}
use Rattle.rcell_pipe_response.specs.declared.question_error.QuestionError.{QuestionError}
use Rattle.rcell_pipe_frames.specs.Frames.{OutputFrame, Patches, PatchNumbers, Border, patch_numbers_frame}

-- the names of all maps: the given maps and the maps that statements make
abbrev pub names_of_all_maps : List (List ℕ) → List Statement → List (List ℕ)
names_of_all_maps names [] = names
names_of_all_maps names (s ∷ ss) = names_of_all_maps (known_names_after_command names s.command) ss

-- the margins of all maps after the statements, in a tile; full maps need no margins
abbrev pub margins_in_tile_at_end : RunShelvesValue → List Statement → Option (List HaloMargin)
margins_in_tile_at_end shelves statements =
    option_map (λ place. margins_of_maps place (length shelves.outer.names) statements) shelves.place

-- a question's zone map is not among the maps with these names
abbrev pub question_has_unknown_zone_map : List (List ℕ) → Option (List ℕ) → Bool
question_has_unknown_zone_map names None = false
question_has_unknown_zone_map names (Some zones) = is_none (place_of_name zones names)

-- a question's map or zone map is not among the maps with these names
abbrev pub question_has_unknown_map : List (List ℕ) → PatchQuestionValue → Bool
question_has_unknown_map names question =
    is_none (place_of_name question.map names) || question_has_unknown_zone_map names question.zones

-- the halo of a tile's map, if there is such a map, is smaller than `depth` on some side
abbrev pub map_lacks_halo : List HaloMargin → Option ℕ → ℕ → Bool
map_lacks_halo margins None depth = false
map_lacks_halo margins (Some place) depth = depth_exceeds_margin margins place depth

-- the halo of a tile is too small for the measures that a question wants; full maps need no halo
abbrev pub question_lacks_halo : List (List ℕ) → Option (List HaloMargin) → PatchQuestionValue → Bool
question_lacks_halo names None question = false
question_lacks_halo names (Some margins) question =
    question.wanted.patches && map_lacks_halo margins (place_of_name question.map names) question.depth

-- why a question is rejected: the response is text, which cannot contain its frame, one of its maps is unknown, or the
-- halo is too small
abbrev pub question_error_kind_if_rejected : ResponseForm → List (List ℕ) → Option (List HaloMargin)
    → PatchQuestionValue → Option QuestionErrorKind
question_error_kind_if_rejected Text names margins question = Some OfText
question_error_kind_if_rejected Frames names margins question =
    if question_has_unknown_map names question then Some UnknownMap else
    (if question_lacks_halo names margins question then Some HaloTooSmall else None)

-- the error of this question; if it has none, the first error among the questions after it
abbrev pub error_of_question_or_later_one : ℕ → Option QuestionErrorKind → Option QuestionError → Option QuestionError
error_of_question_or_later_one number (Some kind) others = Some (record { kind = kind; number = number })
error_of_question_or_later_one number None others = others

-- the first question that is rejected
unfoldable pub first_question_error : ResponseForm → List (List ℕ) → Option (List HaloMargin)
    → List PatchQuestionValue → Option QuestionError
first_question_error form names margins [] = None
first_question_error form names margins (question ∷ questions) =
    error_of_question_or_later_one question.number (question_error_kind_if_rejected form names margins question)
    (first_question_error form names margins questions)

-- the first question about the maps after the statements that is rejected
abbrev pub question_error_after_statements : ResponseForm → RunShelvesValue → List Statement → List PatchQuestionValue
    → Option QuestionError
question_error_after_statements form shelves statements questions =
    first_question_error form (names_of_all_maps shelves.outer.names statements)
    (margins_in_tile_at_end shelves statements) questions

-- the shelf's map with this name
pub record IsShelfMapWithName (shelf : ShelfValue) (name : List ℕ) (map : Grid) : Type 0 where
  pub place : ℕ
  pub named : place_of_name name shelf.names ≡ Some place
  pub at : slice_get shelf.maps place ≡ Some map

-- the zones of a map's patches: the main zone of each patch, if a map of zones is named
abbrev pub AreMainZonesOfPatchesIfNamed : ShelfValue → Grid → ℕ → Option (List ℕ) → Option (List CellValue) → Type 0
AreMainZonesOfPatchesIfNamed shelf numbers patches None given = given ≡ None
AreMainZonesOfPatchesIfNamed shelf numbers patches (Some name) None = ⊥
AreMainZonesOfPatchesIfNamed shelf numbers patches (Some name) (Some main) =
    (zones : Grid) × (IsShelfMapWithName shelf name zones × (AreMainZones numbers zones main × (length main ≡ patches)))

-- the frame of the patches' numbers, if it is wanted
abbrev pub patch_numbers_frame_if_wanted : Bool → ℕ → Grid → List OutputFrame
patch_numbers_frame_if_wanted false place numbers = []
patch_numbers_frame_if_wanted true place numbers = PatchNumbers (patch_numbers_frame place numbers) ∷ []

-- the border of a map with these patch numbers, if it is wanted
abbrev pub IsBorderOfMapIfWanted : Bool → Joining → Grid → Grid → Option TileBorderValue → Type 0
IsBorderOfMapIfWanted false joining map numbers border = border ≡ None
IsBorderOfMapIfWanted true joining map numbers None = ⊥
IsBorderOfMapIfWanted true joining map numbers (Some border) =
    TileHasBorder joining map.region.rows map.region.cols map numbers border
    × TileBorderHasSize map.region.rows map.region.cols border

-- the first row in the full map of maps without halo: the tile's, or 0 for full maps
abbrev pub first_row_in_full_map : Option TilePlaceValue → ℕ
first_row_in_full_map None = 0
first_row_in_full_map (Some p) = p.tile.top

-- the first column in the full map
abbrev pub first_col_in_full_map : Option TilePlaceValue → ℕ
first_col_in_full_map None = 0
first_col_in_full_map (Some p) = p.tile.left

-- the frame of the border, if it is wanted
abbrev pub border_frame_if_wanted : ℕ → Joining → (first_row first_col : ℕ) → RegionValue → Option TileBorderValue
    → List OutputFrame
border_frame_if_wanted place joining first_row first_col region None = []
border_frame_if_wanted place joining first_row first_col region (Some border) = Border (record {
  question = place;
  joining = joining;
  first_row = first_row;
  first_col = first_col;
  rows = region.rows;
  cols = region.cols;
  border = border;
}) ∷ []

-- the measures of a map's patches, and the patches' zones if a map of zones is named
pub record PatchMeasuresValue : Type 0 where
  pub patches : List Patch
  pub zones : Option (List CellValue)

-- the position of a tile in its maps and in the full map
abbrev pub position_of_tile : TilePlaceValue → TilePosition
position_of_tile p = record {
  top = halo_rows_above p;
  left = halo_columns_left p;
  first_row = p.tile.top;
  first_col = p.tile.left;
}

-- the measures of the patches of a full map; or of a tile's patches, given the tile's map of this name with its halo.
-- TileQuestionLaw.antt states that the latter are the measures in the full map
abbrev pub AreMeasuresWithHalo : Option TilePlaceValue → (outer : ShelfValue) → (name : List ℕ) → (map numbers : Grid)
    → (depth : ℕ) → List Patch → Type 0
AreMeasuresWithHalo None outer name map numbers depth patches = AreMeasuresOfAllPatches map numbers depth patches
AreMeasuresWithHalo (Some place) outer name map numbers depth patches =
    (wide : Grid) × (IsShelfMapWithName outer name wide
    × AreMeasuresOfAllPatchesInTile wide (position_of_tile place) numbers depth patches)

-- the measures and the zones of a map's patches, if they are wanted
abbrev pub ArePatchMeasuresIfWanted : Bool → RunShelvesValue → PatchQuestionValue → Grid → Grid
    → Option PatchMeasuresValue → Type 0
ArePatchMeasuresIfWanted false shelves question map numbers measures = measures ≡ None
ArePatchMeasuresIfWanted true shelves question map numbers None = ⊥
ArePatchMeasuresIfWanted true shelves question map numbers (Some measures) =
    AreMeasuresWithHalo shelves.place shelves.outer question.map map numbers question.depth measures.patches
    × AreMainZonesOfPatchesIfNamed (inner_shelf shelves) numbers (length measures.patches) question.zones measures.zones

-- the frame of the measures, if they are wanted
abbrev pub patches_frame_if_wanted : ℕ → PatchQuestionValue → Option PatchMeasuresValue → List OutputFrame
patches_frame_if_wanted place question None = []
patches_frame_if_wanted place question (Some measures) = Patches (record {
  question = place;
  joining = question.joining;
  depth = question.depth;
  patches = measures.patches;
  zones = measures.zones;
}) ∷ []

-- the frames for the question at index `place`, if they are wanted: the numbers of the patches of the named map, which
-- has no halo, the map's border, and the measures of the patches, with their zones
pub record AreFramesForQuestion (shelves : RunShelvesValue) (place : ℕ) (question : PatchQuestionValue)
    (frames : List OutputFrame) : Type 0 where
  pub map : Grid
  pub named : IsShelfMapWithName (inner_shelf shelves) question.map map
  pub numbers : Grid
  pub clumping : IsClumpMapOf question.joining map numbers
  pub border : Option TileBorderValue
  pub bordered : IsBorderOfMapIfWanted question.wanted.border question.joining map numbers border
  pub measures : Option PatchMeasuresValue
  pub measured : ArePatchMeasuresIfWanted question.wanted.patches shelves question map numbers measures
  pub is : frames ≡ patch_numbers_frame_if_wanted question.wanted.numbers place numbers
      ++ (border_frame_if_wanted place question.joining (first_row_in_full_map shelves.place)
      (first_col_in_full_map shelves.place) map.region border ++ patches_frame_if_wanted place question measures)

-- the frames for each question, in order; the first has the index `place`
abbrev pub AreFramesForAllQuestions : RunShelvesValue → ℕ → List PatchQuestionValue → List OutputFrame → Type 0
AreFramesForAllQuestions shelves place [] frames = frames ≡ []
AreFramesForAllQuestions shelves place (question ∷ questions) frames =
    (first : List OutputFrame) × ((others : List OutputFrame) × (AreFramesForQuestion shelves place question first
    × (AreFramesForAllQuestions shelves (place + 1) questions others × (frames ≡ first ++ others))))
