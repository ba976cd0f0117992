-- Definitions that only function bodies, private functions and proofs use.
pub mod Columns
pub mod InReach
pub mod WindowRows
pub mod InPlace
pub mod Operands
