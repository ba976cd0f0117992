-- Lemmas on scripts and outputs.
pub mod Plain
pub mod Judged
pub mod BareLemmas
pub mod AlikeLemmas
pub mod WrittenLemmas
pub mod ExistLemmas
pub mod AcceptedLemmas
pub mod GrownLemmas
pub mod CutLemmas
pub mod LineLemmas
pub mod JoinedLemmas
pub mod DenotedLemmas
pub mod RangeLemmas
pub mod RunMapLemmas
