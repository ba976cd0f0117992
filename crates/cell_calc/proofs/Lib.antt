-- Lemmas shared by several proofs.
pub mod Strips
pub mod Places
pub mod Ready
pub mod Rings
pub mod StretchCells
pub mod Waiting
pub mod Operands
pub mod StretchSteps
pub mod Values
pub mod Written
pub mod CategoryValues
