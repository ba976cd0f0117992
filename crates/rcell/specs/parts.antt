-- Definitions that only private functions and proofs use.
pub mod WindowsSet
pub mod Asked
pub mod Refused
pub mod Ends
pub mod OutputSteps
pub mod StatementsRead
