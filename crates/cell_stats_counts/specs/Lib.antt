-- The number of times that each combination of categories occurs over several maps.
pub mod Counts
pub mod parts
