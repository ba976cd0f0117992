-- Definitions that only private functions, conversions of errors and proofs use.
pub mod Keys
pub mod Faults
pub mod CalcFaults
pub mod Giving
pub mod Sound
