-- Lemmas that several proofs share.
pub mod ParseLemmas
pub mod ProcessLemmas
pub mod WordLemmas
