-- The bytes ahead of a source, the position of a scanner, the cell of a number, the values of keys, and headers line by
-- line.
pub mod Ahead
pub mod Scan
pub mod InRange
pub mod Given
pub mod Opening
pub mod parts
