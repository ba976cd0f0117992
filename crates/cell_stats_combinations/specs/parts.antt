-- How combinations are stored, and when two are equal. Sorting a list of entries.
pub mod Few
pub mod Same
pub mod Joined
