-- What the joiner keeps of a row of tiles.
pub mod RowLabels
pub mod RowMarks
pub mod Spans
pub mod RunLines
pub mod LabelRuns
pub mod Greatest
