-- Rows of cells as bytes.
pub mod Numbers
pub mod RawRows
pub mod PackedRows
pub mod parts
