pub mod BorderLemmas
pub mod BorderFrameLemmas
pub mod NumberingLemmas
pub mod PatchLemmas
pub mod SideLemmas
pub mod TileLemmas
