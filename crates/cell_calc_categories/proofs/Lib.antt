-- Lemmas shared by several proofs.
pub mod Categories
pub mod MapLemmas
