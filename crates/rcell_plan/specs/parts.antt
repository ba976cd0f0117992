-- Definitions that only bodies and proofs use.
pub mod Places
pub mod RewrittenSteps
