-- Lemmas on requests that get a response.
pub mod StatusLemmas
