-- Definitions that only private functions and proofs use.
pub mod CellEntries
pub mod CellLabels
pub mod Coordinates
