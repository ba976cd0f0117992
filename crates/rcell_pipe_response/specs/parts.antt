-- Definitions that only private functions and proofs use.
pub mod ScriptKinds
pub mod FrameExecution
pub mod Answering
pub mod Flushed
