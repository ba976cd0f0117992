-- The place of a tile in a full map, as a request states it, and the region of its maps (profile).
use Rattle.std.specs.Prelude.{ℕ, ◌-◌, Bool, Ok, Err, if◌then◌else◌}
use Rattle.std.specs.Option.{is_some}
use Rattle.std.specs.Int.{w32}
use Rattle.cell_core_devices.specs.Device.{ComingBytes}
use Rattle.cell_core_values.specs.Answers.{◌>>=◌}
use Rattle.cell_join_numbers.specs.Parts.{Rectangle}
use Rattle.rcell_tile.specs.TilePlaces.{TilePlaceValue, valid_tile_place}
use Rattle.rcell_pipe_request.specs.declared.error.ErrorKind.TheVariants as kinds
use Rattle.rcell_pipe_request.specs.declared.place.FullMapAndCorner.{FullMapAndCorner}
use Rattle.rcell_pipe_request.specs.declared.place.PlaceAndRegion.{PlaceAndRegion}
use Rattle.rcell_pipe_request.specs.declared.place.StatedPlace.{StatedPlace}
use Rattle.rcell_pipe_request.specs.RequestFields.{RequestFieldReading, unsigned_number_reading}
use Rattle.rcell_pipe_request.specs.RequestFields.{reading_of_value_or_error_kind}
use Rattle.rcell_pipe_request.specs.RequestRegions.{region_reading}

-- the size of the full map, and the first row and column of the maps in it
unfoldable pub full_map_and_corner_reading : ComingBytes → RequestFieldReading FullMapAndCorner
full_map_and_corner_reading c = do
  rows ← unsigned_number_reading w32 c
  cols ← unsigned_number_reading w32 rows.1
  top ← unsigned_number_reading w32 cols.1
  left ← unsigned_number_reading w32 top.1
  Ok (record { rows = rows.0; cols = cols.0; top = top.0; left = left.0 }, left.1)

-- a tile's first row and column in the full map, and its numbers of rows and columns
unfoldable pub tile_rectangle_reading : ComingBytes → RequestFieldReading Rectangle
tile_rectangle_reading c = do
  top ← unsigned_number_reading w32 c
  left ← unsigned_number_reading w32 top.1
  rows ← unsigned_number_reading w32 left.1
  cols ← unsigned_number_reading w32 rows.1
  Ok (record { top = top.0; left = left.0; rows = rows.0; cols = cols.0 }, cols.1)

-- the place, if the maps have these numbers of rows and columns
abbrev pub place_of_maps_of_size : StatedPlace → ℕ → ℕ → TilePlaceValue
place_of_maps_of_size p rows cols = record {
  rows = p.maps.rows;
  cols = p.maps.cols;
  outer = record { top = p.maps.top; left = p.maps.left; rows = rows; cols = cols };
  tile = p.tile;
}

-- the place is valid for the largest maps: these end with the full map
abbrev pub is_possible_place : StatedPlace → Bool
is_possible_place p =
    is_some (valid_tile_place (place_of_maps_of_size p (p.maps.rows - p.maps.top) (p.maps.cols - p.maps.left)))

-- the place, which must be possible
unfoldable pub place_reading : ComingBytes → RequestFieldReading StatedPlace
place_reading c = do
  maps ← full_map_and_corner_reading c
  tile ← tile_rectangle_reading maps.1
  if is_possible_place (record { maps = maps.0; tile = tile.0 }) then Ok
      (record { maps = maps.0; tile = tile.0 }, tile.1) else Err kinds.BadPlace

-- the place, then the region of the maps, which must contain the tile and be inside the full map
unfoldable pub place_and_region_reading : ComingBytes → RequestFieldReading PlaceAndRegion
place_and_region_reading c = do
  stated ← place_reading c
  region ← region_reading stated.1
  place ← reading_of_value_or_error_kind kinds.BadPlace region.1
      (valid_tile_place (place_of_maps_of_size stated.0 region.0.rows region.0.cols))
  Ok (record { place = place.0; region = region.0 }, place.1)
