-- Lemmas that several proofs share.
pub mod WindowLemmas
pub mod KnownLemmas
pub mod LoadingLemmas
pub mod TextLemmas
pub mod OutputLemmas
pub mod TableLemmas
pub mod StatsLemmas
pub mod runs
