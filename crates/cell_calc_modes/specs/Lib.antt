-- Rows of cells, and the most frequent cells of their columns.
pub mod ColumnCells
pub mod parts
