use Rattle.std.proofs.Common.{◌≡◌, ◌<◌, ◌-◌, ℕ, length, map}
use Rattle.cell_calc_modes.specs.ColumnCells.{at, cells_at_column}
use Rattle.cell_calc_language.specs.CellOperators.{most_frequent, non_null_cells}
use Rattle.cell_calc_modes.proofs.mode_lanes.write_modes_ignoring_null.Given as goal

abbrev pub invariant-blocks-2 : goal.invariant-blocks-2
invariant-blocks-2 l =
    record {
      columns : (k : ℕ) → k < l.done
          → at l.row k ≡ most_frequent (non_null_cells (cells_at_column k (map (λ cells. cells.items) l.arguments)));
    }

abbrev pub decreases-blocks-2 : goal.decreases-blocks-2
decreases-blocks-2 l = length l.row - l.done
