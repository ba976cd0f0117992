-- Lemmas shared by several proofs.
pub mod Columns
pub mod Frequent
pub mod ModeLanes
