-- The request of a command line, and the errors before a run, with their exit statuses.
pub mod CommandLine
pub mod OpenedGrids
pub mod Refusals
pub mod Work
