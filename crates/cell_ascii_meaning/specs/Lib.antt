-- Grid texts: their meaning, their errors, how they are read from left to right, and how they are written.
pub mod GridWords
pub mod GridTokens
pub mod EdgeNumbers
pub mod KeyNames
pub mod GridText
pub mod Header
pub mod CellTexts
pub mod FaultPlaces
pub mod RowPlaces
pub mod Kinds
pub mod Writing
