-- The clumps of a grid of tiles, labelled using the rows in which they begin, and joined.
pub mod Beginnings
pub mod Borders
pub mod SeamLines
pub mod Values
pub mod JoinedBorders
pub mod JoinedTiles
pub mod JoinedLaw
pub mod LabelLines
pub mod TileNumbers
pub mod parts
