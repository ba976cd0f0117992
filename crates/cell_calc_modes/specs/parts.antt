-- Definitions that only private functions and proofs use.
pub mod Modes
pub mod ModeLanes
