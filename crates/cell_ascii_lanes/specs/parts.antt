-- Tables of the contributions of bytes to the values of words.
pub mod LaneTables
