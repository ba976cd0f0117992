-- Lemmas shared by several proofs.
pub mod Reaches
