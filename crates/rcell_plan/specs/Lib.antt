-- What statements read, what they need from the given maps, and that these needs are enough. Laws about the values of
-- expressions.
pub mod HaloParts
pub mod LocalLaw
pub mod ReachParts
pub mod ShiftLaw
pub mod TileLaw
pub mod Needs
pub mod NeedsLaw
pub mod Plans
pub mod ReadsLaw
pub mod Rewriting
pub mod parts
