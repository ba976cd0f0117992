pub mod CellsLemmas
pub mod LawLemmas
pub mod LineLemmas
pub mod RestLemmas
pub mod SortedLemmas
pub mod TableLemmas
pub mod WidthLemmas
