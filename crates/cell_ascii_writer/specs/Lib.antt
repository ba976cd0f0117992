-- The text of a row's cells, run by run.
pub mod WrittenRuns
pub mod Fields
pub mod parts
