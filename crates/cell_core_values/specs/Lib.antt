-- Cells, cells stored as bytes, regions and names; blanks, whole numbers and words of texts.
pub mod Cell
pub mod Name
pub mod Region
pub mod SmallCells
pub mod SameRegion
pub mod Letters
pub mod Blanks
pub mod Digits
pub mod WholeNumbers
pub mod Capped
pub mod Words
pub mod Answers
pub mod parts
