pub mod AcceptedLemmas
pub mod EndLemmas
pub mod ExecutionLemmas
pub mod WrittenLemmas
