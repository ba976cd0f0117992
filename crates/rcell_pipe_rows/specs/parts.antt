-- Definitions that only private functions and proofs use.
pub mod PackedBytes
pub mod NarrowNumbers
