-- Running a script over a tile: where the tile is, its maps with and without halo, the maps after each command, and how
-- far the halo is enough.
pub mod TilePlaces
pub mod TileMaps
pub mod TileRuns
pub mod HaloMargins
pub mod parts
pub mod TileRunLaw
pub mod PlannedHalo
pub mod ClumpDependence
