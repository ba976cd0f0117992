pub mod BlockLemmas
pub mod DeviceLemmas
pub mod PieceLemmas
pub mod SupposedLemmas
pub mod AgreementLemmas
