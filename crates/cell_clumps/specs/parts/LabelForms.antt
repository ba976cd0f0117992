-- The forms in which the labels of a row are stored: by runs or by cells.
use Rattle.std.specs.Prelude.{ℕ, List}
use Rattle.cell_clumps.specs.declared.kept_labels.RowLabelStorage.{RowLabelStorage}
use Rattle.cell_clumps.specs.declared.kept_labels.RowLabelStorage.TheVariants.{Runs, Cells}
use Rattle.cell_clumps.specs.parts.RunsOfLabels.{labels_of_cells_in_runs}

-- the labels of a row's cells
abbrev pub labels_of_stored_row : RowLabelStorage → List ℕ
labels_of_stored_row (Runs runs) = labels_of_cells_in_runs runs.items
labels_of_stored_row (Cells labels) = labels.items
