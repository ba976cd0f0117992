-- Definitions that only private functions and proofs use.
pub mod Heights
pub mod TableCounts
