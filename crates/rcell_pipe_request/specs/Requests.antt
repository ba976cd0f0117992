-- The meaning of a request's bytes: maps of one region with distinct names, the bytes of a script, and questions
-- (profile).
use Rattle.std.specs.Prelude.{ℕ, ◌+◌, ◌&&◌, nat_le, List, [], ◌∷◌, ◌++◌, length, Some, Ok, Err, if◌then◌else◌}
use Rattle.std.specs.FinMap as finmap
use Rattle.std.specs.Ordering.{int_cmp}
use Rattle.std.specs.Int.{w32}
use Rattle.cell_core_devices.specs.Device.{ComingBytes}
use Rattle.cell_core_values.specs.Region.{RegionValue}
use Rattle.cell_core.specs.Grid.{CellValue, Grid, empty_category_labels}
use Rattle.cell_core.specs.Shelf.{ShelfValue}
use Rattle.rcell_tile.specs.TileRuns.{RunShelvesValue, shelves_of_full_maps}
use Rattle.rcell_pipe_request.specs.declared.error.ErrorKind.TheVariants as kinds
use Rattle.rcell_pipe_request.specs.declared.error.FieldReadingStop.{FieldReadingStop}
use Rattle.rcell_pipe_request.specs.declared.error.FieldReadingStop.TheVariants as field_stops
use Rattle.rcell_pipe_request.specs.declared.error.RequestStop.{RequestStop}
use Rattle.rcell_pipe_request.specs.declared.error.RequestStop.TheVariants as request_stops
use Rattle.rcell_pipe_request.specs.declared.named_map.NamedMap.{NamedMap}
use Rattle.rcell_pipe_request.specs.declared.request.Request.{Request}
use Rattle.cell_core_values.specs.Answers.{◌>>=◌}
use Rattle.rcell_pipe_request.specs.RequestFields.{RequestFieldReading, PositionedReading, result_with_error_position}
use Rattle.rcell_pipe_request.specs.RequestFields.{bytes_reading, unsigned_number_reading, end_of_request_reading}
use Rattle.rcell_pipe_request.specs.RequestFields.{reading_repeated_n_times}
use Rattle.rcell_pipe_request.specs.Questions.{PatchQuestionValue, questions_to_request_end_reading}
use Rattle.rcell_pipe_request.specs.Questions.{questions_as_values}
use Rattle.rcell_pipe_request.specs.Heads.{LabelValue, map_head_reading}
use Rattle.rcell_pipe_request.specs.RequestPlaces.{place_and_region_reading}
use Rattle.rcell_pipe_request.specs.RequestRegions.{region_reading}
use Rattle.rcell_pipe_request.specs.Rows.{row_cells_reading}
use Rattle.rcell_pipe_request.specs.TextMaps.{text_map_reading}
use Rattle.rcell_pipe_request.specs.declared.head.RawFormat.{RawFormat}
use Rattle.rcell_pipe_request.specs.declared.head.MapFormat.{MapFormat}
use Rattle.rcell_pipe_request.specs.declared.head.MapFormat.TheVariants as formats

-- the error of a field, with its position
abbrev pub request_stop_at_position : ℕ → ℕ → FieldReadingStop → RequestStop
request_stop_at_position maps row field_stops.Memory = request_stops.Memory
request_stop_at_position maps row (field_stops.Error kind) = request_stops.Error
    (record { kind = kind; maps = maps; row = row })

-- the rows so far, and one more
unfoldable pub next_row_reading : ℕ → RawFormat → ℕ → List (List CellValue) → ComingBytes
    → PositionedReading (List (List CellValue))
next_row_reading maps format cols rows c = do
  row ← result_with_error_position maps (length rows + 1) (row_cells_reading format cols c)
  Ok (rows ++ row.0 ∷ [], row.1)

-- adds labels; a category's last label replaces earlier ones
unfoldable pub label_map_with_added_labels : finmap.FinMap int_cmp (List ℕ) → List LabelValue
    → finmap.FinMap int_cmp (List ℕ)
label_map_with_added_labels labels [] = labels
label_map_with_added_labels labels (label ∷ more) = label_map_with_added_labels
    (finmap.insert labels label.category label.text) more

abbrev pub map_with_added_labels : Grid → List LabelValue → Grid
map_with_added_labels map labels = record map { labels = label_map_with_added_labels map.labels labels }

-- a map and its name
pub record NamedMapValue : Type 0 where
  pub name : List ℕ
  pub grid : Grid

-- the rows of a map of this region
unfoldable pub number_map_reading : RegionValue → ℕ → RawFormat → ComingBytes → PositionedReading Grid
number_map_reading region maps format c = do
  rows ← reading_repeated_n_times (next_row_reading maps format region.cols) [] region.rows c
  Ok (record { region = region; rows = rows.0; labels = empty_category_labels }, rows.1)

-- the cells of a map of this region
abbrev pub map_cells_reading : RegionValue → ℕ → MapFormat → ComingBytes → PositionedReading Grid
map_cells_reading region maps (formats.Numbers format) c = number_map_reading region maps format c
map_cells_reading region maps formats.Text c = text_map_reading region maps c

-- the head of one more map of the shelf's region, then its cells
unfoldable pub map_reading : ShelfValue → ComingBytes → PositionedReading NamedMapValue
map_reading shelf c = do
  head ← result_with_error_position (length shelf.names) 0 (map_head_reading shelf.names c)
  map ← map_cells_reading shelf.region (length shelf.names) head.0.format head.1
  Ok (record { name = head.0.name; grid = map_with_added_labels map.0 head.0.labels }, map.1)

abbrev pub shelf_with_named_map : ShelfValue → NamedMapValue → ShelfValue
shelf_with_named_map shelf named = record shelf {
  names = shelf.names ++ named.name ∷ [];
  maps = shelf.maps
      ++ named.grid ∷ [];
}

abbrev pub empty_shelf : RegionValue → ShelfValue
empty_shelf region = record { region = region; names = []; maps = [] }

-- the shelf so far, with one more map
unfoldable pub next_map_reading : ShelfValue → ComingBytes → PositionedReading ShelfValue
next_map_reading shelf c = do
  named ← map_reading shelf c
  Ok (shelf_with_named_map shelf named.0, named.1)

-- the number of maps
unfoldable pub map_count_reading : ComingBytes → RequestFieldReading ℕ
map_count_reading c = do
  count ← unsigned_number_reading w32 c
  if nat_le 1 count.0 && nat_le count.0 65535 then Ok count else Err kinds.BadCount

unfoldable pub script_bytes_reading : ComingBytes → RequestFieldReading (List ℕ)
script_bytes_reading c = do
  size ← unsigned_number_reading w32 c
  if nat_le size.0 1048576 then bytes_reading size.0 size.1 else Err kinds.ScriptSize

-- the script of a request without questions, which ends the request
unfoldable pub script_to_request_end_reading : ComingBytes → RequestFieldReading (List ℕ)
script_to_request_end_reading c = do
  script ← script_bytes_reading c
  end ← end_of_request_reading script.1
  Ok (script.0, end.1)

-- maps, full or of a tile with its halo; a script; and questions about the maps that exist at its end
pub record RunRequestValue : Type 0 where
  pub shelves : RunShelvesValue
  pub script : List ℕ
  pub questions : List PatchQuestionValue

-- the number of maps, and all maps, which have this region
unfoldable pub maps_reading : RegionValue → ComingBytes → PositionedReading ShelfValue
maps_reading region c = do
  count ← result_with_error_position 0 0 (map_count_reading c)
  reading_repeated_n_times next_map_reading (empty_shelf region) count.0 count.1

-- the script and the questions of a run over these maps, which end the request
unfoldable pub run_over_shelves_reading : RunShelvesValue → ComingBytes → PositionedReading RunRequestValue
run_over_shelves_reading shelves c = do
  script ← result_with_error_position (length shelves.outer.names) 0 (script_bytes_reading c)
  questions ← questions_to_request_end_reading (length shelves.outer.names) script.1
  Ok (record { shelves = shelves; script = script.0; questions = questions.0 }, questions.1)

-- the region, full maps, the script and the questions
unfoldable pub run_request_reading : ComingBytes → PositionedReading RunRequestValue
run_request_reading c = do
  region ← result_with_error_position 0 0 (region_reading c)
  maps ← maps_reading region.0 region.1
  run_over_shelves_reading (shelves_of_full_maps maps.0) maps.1

-- the place of a tile and the region of its maps, the maps with their halo, the script and the questions
unfoldable pub tile_run_request_reading : ComingBytes → PositionedReading RunRequestValue
tile_run_request_reading c = do
  placed ← result_with_error_position 0 0 (place_and_region_reading c)
  maps ← maps_reading placed.0.region placed.1
  run_over_shelves_reading (record { outer = maps.0; place = Some placed.0.place }) maps.1

abbrev pub named_map_as_value : NamedMap → NamedMapValue
named_map_as_value named = record { name = named.name; grid = named.map }

abbrev pub run_request_as_value : Request → RunRequestValue
run_request_as_value request = record {
  shelves = request.shelves;
  script = request.script.items;
  questions = questions_as_values request.questions.items;
}
