-- Definitions that only private functions and proofs use.
pub mod GridCode
pub mod MapRows
pub mod RowForms
