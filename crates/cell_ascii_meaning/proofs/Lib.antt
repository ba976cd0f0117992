-- Lemmas on the words and blanks of a grid text.
pub mod TokenLemmas
