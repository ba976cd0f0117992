-- Definitions that only private functions and proofs use.
pub mod OfPicks
pub mod PairsCode
pub mod Preceded
pub mod Selected
