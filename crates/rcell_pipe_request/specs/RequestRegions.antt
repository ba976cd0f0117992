-- The region of a request's maps: four coordinates as texts, and the numbers of rows and columns (profile).
use Rattle.std.specs.Prelude.{ℕ, ℤ, Result, Ok, Err}
use Rattle.std.specs.Int.{w8, w32}
use Rattle.cell_core_devices.specs.Device.{ComingBytes}
use Rattle.cell_core_values.specs.Answers.{◌>>=◌}
use Rattle.cell_core_values.specs.Region.{RegionValue, region_or_first_fault}
use Rattle.cell_core_values.specs.declared.region.RegionFault.{RegionFault}
use Rattle.cell_ascii_meaning.specs.EdgeNumbers.{coordinate_of_text}
use Rattle.rcell_pipe_request.specs.declared.error.ErrorKind.TheVariants as kinds
use Rattle.rcell_pipe_request.specs.RequestFields.{RequestFieldReading, reading_of_value_or_error_kind}
use Rattle.rcell_pipe_request.specs.RequestFields.{sized_text_reading, unsigned_number_reading}

-- a coordinate, written as in the header of a grid text
unfoldable pub coordinate_reading : ComingBytes → RequestFieldReading ℤ
coordinate_reading c = do
  text ← sized_text_reading w8 c
  reading_of_value_or_error_kind kinds.BadNumber text.1 (coordinate_of_text text.0)

-- the region, or an error if the six numbers do not form a region
abbrev pub region_or_error : ComingBytes → Result RegionValue RegionFault → RequestFieldReading RegionValue
region_or_error rest (Ok region) = Ok (region, rest)
region_or_error rest (Err error) = Err kinds.BadRegion

-- north, south, east and west
pub record RegionEdgesValue : Type 0 where
  pub north : ℤ
  pub south : ℤ
  pub east : ℤ
  pub west : ℤ

-- four coordinates as texts
unfoldable pub edges_reading : ComingBytes → RequestFieldReading RegionEdgesValue
edges_reading c = do
  north ← coordinate_reading c
  south ← coordinate_reading north.1
  east ← coordinate_reading south.1
  west ← coordinate_reading east.1
  Ok (record { north = north.0; south = south.0; east = east.0; west = west.0 }, west.1)

-- the edges, then the numbers of rows and columns
unfoldable pub region_reading : ComingBytes → RequestFieldReading RegionValue
region_reading c = do
  edges ← edges_reading c
  rows ← unsigned_number_reading w32 edges.1
  cols ← unsigned_number_reading w32 rows.1
  region_or_error cols.1 (region_or_first_fault (record { north = edges.0.north; south = edges.0.south; east = edges.0.east; west = edges.0.west; rows = rows.0; cols = cols.0 }))
