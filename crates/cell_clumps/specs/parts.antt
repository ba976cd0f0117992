-- Labels of cells, and the label tables with which clumps are found.
pub mod Labels
pub mod Meetings
pub mod ClumpNumbers
pub mod CellPlaces
pub mod ClumpsRead
pub mod Starts
pub mod LabelTables
pub mod RunsOfLabels
pub mod LabelForms
