-- The words of a command line, and the errors that a program reports.
pub mod CommandWords
pub mod Processes
pub mod Reported
pub mod parts
