-- Lemmas that several proofs share.
pub mod WordLemmas
pub mod WorkLemmas
