-- Definitions of clumps for public contracts; and, in parts, for private functions and proofs.
pub mod Clumps
pub mod ClumpLaw
pub mod parts
