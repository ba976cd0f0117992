-- Borders of tiles in join requests.
pub mod BorderChecks
pub mod BorderGrids
pub mod BorderLaw
pub mod BorderFrameLaw
pub mod parts
