-- Definitions that only private functions and proofs use.
pub mod Edges
pub mod TextStops
