-- Numberings of the patches of tiles, and patches that are joined from parts.
pub mod PatchNumbers
pub mod JoinedPatches
pub mod PatchPartLaw
pub mod TileGridLaw
pub mod parts
