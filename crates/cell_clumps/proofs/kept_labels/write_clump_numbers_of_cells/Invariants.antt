use Rattle.std.proofs.Common.{◌≡◌, map, take}
use Rattle.cell_clumps.specs.parts.RunsOfLabels.{clump_number_cell_of_label}
use Rattle.cell_clumps.proofs.kept_labels.write_clump_numbers_of_cells.Given as goal

abbrev pub invariant-loop-i : goal.invariant-loop-i
invariant-loop-i l = take l.i l.cells ≡ map (clump_number_cell_of_label l.table) (take l.i l.labels)
