-- Rows of cells, windows over maps, spans of their rows, and values of expressions along rows.
pub mod RowValues
pub mod ByCategory
pub mod CommonStretches
pub mod Window
pub mod WindowsOver
pub mod parts
