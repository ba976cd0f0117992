-- Cells read within one line, the requirements for reading a word's cell, and a reader before its first row.
pub mod InLine
pub mod WordPlaces
pub mod BlankRuns
pub mod FrontCells
pub mod Unread
