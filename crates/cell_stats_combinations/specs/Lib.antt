-- Combinations of the categories of several maps, and walks along the rows of several maps at once. Combinations, each
-- with a number of cells: in a list, side by side, and in places.
pub mod Combinations
pub mod ComboText
pub mod ComboReading
pub mod LeftOut
pub mod Cursors
pub mod Listed
pub mod SideBySide
pub mod PairPlaces
pub mod parts
