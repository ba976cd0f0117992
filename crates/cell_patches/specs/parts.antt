-- Definitions that only private functions and proofs use.
pub mod Passes
pub mod Leads
