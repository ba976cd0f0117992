use Rattle.std.proofs.Common.{◌≡◌, ℕ, ◌∙◌, Ok, refl, sym}
use Rattle.std.specs.Int.{w32}
use Rattle.cell_core_devices.specs.Device.{ComingBytes}
use Rattle.cell_core_values.specs.Region.{RegionValue, region_or_first_fault}
use Rattle.rcell_pipe_request.specs.RequestFields.{unsigned_number_reading}
use Rattle.rcell_pipe_request.specs.RequestRegions.{RegionEdgesValue, edges_reading, region_reading}
use Rattle.rcell_pipe_request.proofs.request_region.read_region.Goals as goal

-- the edges, rows and columns that are read make up the region
region_of_parts : (c c1 c2 c3 : ComingBytes) (edges : RegionEdgesValue) (rows cols : ℕ) (region : RegionValue) → edges_reading c ≡ Ok (edges, c1) → unsigned_number_reading w32 c1 ≡ Ok (rows, c2) → unsigned_number_reading w32 c2 ≡ Ok (cols, c3)
    → region_or_first_fault (record { north = edges.north; south = edges.south; east = edges.east; west = edges.west; rows = rows; cols = cols }) ≡ Ok region → region_reading c ≡ Ok (region, c3)
unfolding region_reading
region_of_parts c c1 c2 c3 edges rows cols region a b d is = rw (a, b, d, is) refl

pub returns-in-Ok : goal.returns-in-Ok
returns-in-Ok g c = (
  λ w is.
      let cols = c.in_ok-cols.ensures.0 w is in
      let rows = c.in_ok-rows.ensures.0 w cols.0 in
      let edges = c.in_ok-edges.ensures.0 w rows.0 in
      (edges.0, region_of_parts _ _ _ _ _ _ _ _ edges.1 rows.1 cols.1 (sym c.region_of_edges.ensures ∙ c.in-Ok.is)),
  λ going. c.in_ok-cols.ensures.1 (c.in_ok-rows.ensures.1 (c.in_ok-edges.ensures.1 going)),
)
