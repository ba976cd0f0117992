use Rattle.std.proofs.Common.{◌≡◌, ◌<◌, ℕ, length, map}
use Rattle.cell_calc_modes.specs.ColumnCells.{at, cells_at_column}
use Rattle.cell_calc_language.specs.CellOperators.{most_frequent, non_null_cells}
use Rattle.cell_calc_modes.proofs.modes.write_modes_by_sorting.Given as goal

abbrev pub invariant-loop-c : goal.invariant-loop-c
invariant-loop-c l =
    record {
      room : length l.cells ≡ length l.arguments;
      done : (k : ℕ) → k < l.c
          → at l.row k ≡ most_frequent (non_null_cells (cells_at_column k (map (λ cells. cells.items) l.arguments)));
    }
