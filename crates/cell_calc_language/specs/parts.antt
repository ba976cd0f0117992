-- Definitions that only function bodies and proofs use.
pub mod Waiting
pub mod TreeSteps
