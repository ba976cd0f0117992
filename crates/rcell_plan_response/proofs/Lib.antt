-- Lemmas that several proofs share.
pub mod PlanEndLemmas
pub mod TileResponseLemmas
