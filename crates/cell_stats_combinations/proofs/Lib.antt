pub mod OrderLemmas
pub mod ReadingLemmas
pub mod CursorLemmas
pub mod WalkLemmas
pub mod GatheredLemmas
pub mod JoinLemmas
pub mod SideLemmas
