-- The language of r.mapcalc: assignments, errors in the grammar, and laws about these errors. Operators and functions
-- on cells. Expressions over indices of maps: their names and indices, their values at cells, and the maps and rows
-- that they read.
pub mod Assignment
pub mod GrammarFault
pub mod Grammatical
pub mod Stopping
pub mod Unknown
pub mod GrammarLaw
pub mod Applied
pub mod CellOperators
pub mod Joins
pub mod Offsets
pub mod Binding
pub mod Compact
pub mod Formula
pub mod Reach
pub mod Value
pub mod parts
