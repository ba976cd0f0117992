-- A run, its exit statuses and its outcome.
pub mod Statuses
pub mod Accepted
pub mod Execution
pub mod Outcomes
pub mod Endings
