-- Lemmas on blanks, words and the parts around a byte.
pub mod NameLemmas
pub mod PlaceLemmas
pub mod BlankLemmas
pub mod PartLemmas
pub mod WordLemmas
