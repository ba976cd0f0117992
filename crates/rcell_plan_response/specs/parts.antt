-- Definitions that only private functions and proofs use.
pub mod RequestStops
pub mod Answered
