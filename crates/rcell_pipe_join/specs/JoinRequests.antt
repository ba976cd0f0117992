-- The meaning of the bytes of a join request: borders of tiles, tables, patches of tiles, or patch tables (profile).
use Rattle.std.specs.Prelude.{ℕ, List, Option, Some, None, Result, Ok, ◌==◌, if◌then◌else◌}
use Rattle.std.specs.Int.{w8}
use Rattle.cell_core_devices.specs.Device.{ComingBytes}
use Rattle.cell_core_values.specs.Answers.{◌>>=◌}
use Rattle.cell_clumps.specs.declared.clump.Joining.{Joining}
use Rattle.cell_clumps.specs.declared.clump.Joining.TheVariants.{Edges, EdgesAndCorners}
use Rattle.cell_join_numbers.specs.declared.stretch.ConsecutiveClumps.{ConsecutiveClumps}
use Rattle.cell_join_patches.specs.declared.part.PatchOfTile.{PatchOfTile}
use Rattle.cell_join_tiles.specs.Values.{TileBorderValue}
use Rattle.cell_stats_combinations.specs.Listed.{CombinationCounts}
use Rattle.rcell_pipe_request.specs.declared.error.ErrorKind.TheVariants as kinds
use Rattle.rcell_pipe_request.specs.declared.error.RequestError.{RequestError}
use Rattle.rcell_pipe_request.specs.RequestFields.{RequestFieldReading, PositionedReading, result_with_error_position}
use Rattle.rcell_pipe_request.specs.RequestFields.{unsigned_number_reading}
use Rattle.rcell_pipe_request.specs.RequestFields.{reading_of_value_or_error_kind}
use Rattle.rcell_pipe_join.specs.declared.join_request.JoinKind.{JoinKind}
use Rattle.rcell_pipe_join.specs.declared.join_request.JoinKind.TheVariants.{Borders, Patches, PatchTables, Tables}
use Rattle.rcell_pipe_join.specs.declared.join_request.JoinRequest.{JoinRequest}
use Rattle.rcell_pipe_join.specs.declared.join_request.JoinRequest.TheVariants as join_requests
use Rattle.rcell_pipe_borders.specs.BorderGrids.{tile_grid_reading, borders_as_values}
use Rattle.rcell_pipe_join.specs.PatchLists.{patches_to_join_reading}
use Rattle.rcell_pipe_join.specs.PatchTables.{TileTable, patch_tables_as_values, patch_tables_reading}
use Rattle.rcell_pipe_join.specs.TableEntries.{map_count_and_tables_reading, tables_as_values}

-- the kind with this code
abbrev pub join_kind_of_code : ℕ → Option JoinKind
join_kind_of_code code =
    if code == 1 then Some Tables else
    (if code == 2 then Some Patches else
    (if code == 3 then Some PatchTables else
    (if code == 4 then Some (Borders Edges) else (if code == 8 then Some (Borders EdgesAndCorners) else None))))

unfoldable pub join_kind_reading : ComingBytes → RequestFieldReading JoinKind
join_kind_reading c = do
  code ← unsigned_number_reading w8 c
  reading_of_value_or_error_kind kinds.BadKind code.1 (join_kind_of_code code.0)

-- the borders of a grid of tiles, with the connectivity of their patches; tables over a number of maps; the runs of a
-- numbering, and patches of tiles; or the runs of a numbering, and patch tables over a number of maps
pub data JoinRequestValue : Type 0 where
  BorderGrid : Joining → List (List TileBorderValue) → JoinRequestValue
  TableList : ℕ → List CombinationCounts → JoinRequestValue
  PatchList : List ConsecutiveClumps → List PatchOfTile → JoinRequestValue
  PatchTableList : List ConsecutiveClumps → ℕ → List TileTable → JoinRequestValue

-- the request after its kind
unfoldable pub join_request_of_kind_reading : JoinKind → ComingBytes → PositionedReading JoinRequestValue
join_request_of_kind_reading (Borders joining) c = do
  grid ← tile_grid_reading joining c
  Ok (BorderGrid joining grid.0, grid.1)
join_request_of_kind_reading Tables c = do
  tables ← map_count_and_tables_reading c
  Ok (TableList tables.0.0 tables.0.1, tables.1)
join_request_of_kind_reading Patches c = do
  lists ← patches_to_join_reading c
  Ok (PatchList lists.0.0 lists.0.1, lists.1)
join_request_of_kind_reading PatchTables c = do
  tables ← patch_tables_reading c
  Ok (PatchTableList tables.0.0 tables.0.1 tables.0.2, tables.1)

unfoldable pub join_request_reading : ComingBytes → PositionedReading JoinRequestValue
join_request_reading c = do
  kind ← result_with_error_position 0 0 (join_kind_reading c)
  join_request_of_kind_reading kind.0 kind.1

-- a join request, or its first error
abbrev pub join_request_or_error : ComingBytes → Result JoinRequestValue RequestError
join_request_or_error c = join_request_reading c >>= λ request. Ok request.0

-- the request as a value
abbrev pub join_request_as_value : JoinRequest → JoinRequestValue
join_request_as_value (join_requests.Borders joining grid) = BorderGrid joining (borders_as_values grid.items)
join_request_as_value (join_requests.Tables t) = TableList t.width (tables_as_values t.tables.items)
join_request_as_value (join_requests.Patches p) = PatchList p.numbering p.joiner
join_request_as_value (join_requests.PatchTables t) =
    PatchTableList t.numbering t.width (patch_tables_as_values t.tables.items)
