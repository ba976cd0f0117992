use Rattle.std.proofs.Common.{◌≡◌, ◌≤◌, map, take}
use Rattle.cell_calc_language.specs.CellOperators.{non_null_cells}
use Rattle.cell_calc_modes.specs.ColumnCells.{cells_at_column}
use Rattle.cell_calc_modes.proofs.modes.gather_categories_of_column.Given as goal

abbrev pub invariant-loop-other : goal.invariant-loop-other
invariant-loop-other l =
    record {
      count : l.count ≤ l.other-index;
      known : take l.count l.cells ≡ non_null_cells (take l.other-index
          (cells_at_column l.c (map (λ row. row.items) l.arguments)));
    }
