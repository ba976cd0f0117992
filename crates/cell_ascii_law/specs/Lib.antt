-- The laws of read and of written grid texts.
pub mod GridLaw
pub mod WrittenLaw
