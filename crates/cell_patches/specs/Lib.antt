-- The patches of a map, their measures and their main zones; and, in parts, definitions for private functions and
-- proofs.
pub mod Patches
pub mod TilePatches
pub mod TilePatchLaw
pub mod Zones
pub mod parts
