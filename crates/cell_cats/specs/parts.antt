-- The cache of new categories, the table of all bytes, the pieces into which rules cut the number line, and borrowed
-- words.
pub mod ByteTables
pub mod KnownCategories
pub mod Pieces
pub mod ItemWords
