-- A region's coordinates, as the code stores them before the region is checked.
use Rattle.std.specs.Prelude.{ℕ}
use Rattle.cell_core_values.specs.Region.{RegionValue}
use Rattle.rcell_pipe_request.specs.declared.request_region.Edges.{Edges}
use Rattle.rcell_pipe_request.specs.RequestRegions.{RegionEdgesValue}

-- edges, rows and columns as a region
abbrev pub region_of_edge_values : Edges → ℕ → ℕ → RegionValue
region_of_edge_values edges rows cols = record { north = edges.north; south = edges.south; east = edges.east; west = edges.west; rows = rows; cols = cols }

abbrev pub edges_as_value : Edges → RegionEdgesValue
edges_as_value edges = record { north = edges.north; south = edges.south; east = edges.east; west = edges.west }
