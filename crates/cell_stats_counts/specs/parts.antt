-- Combinations of one map, and intermediate counts.
pub mod Alone
pub mod ByteCounts
pub mod CountsUnderWay
pub mod HeldPlaces
pub mod RisingEnds
pub mod RowCells
