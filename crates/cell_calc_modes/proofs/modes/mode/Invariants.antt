use Rattle.std.proofs.Common.{◌≡◌, ◌<◌, ℕ, length, take, map}
use Rattle.std.specs.Prelude.{fold}
use Rattle.cell_calc_modes.specs.ColumnCells.{at, cells_at_column}
use Rattle.cell_calc_language.specs.CellOperators.{most_frequent, non_null_cells}
use Rattle.cell_calc_modes.specs.parts.Modes.{cell_unless_other_null}
use Rattle.cell_calc_modes.proofs.modes.mode.Given as goal

abbrev pub invariant-loop-other : goal.invariant-loop-other
invariant-loop-other l =
    record {
      done : (c : ℕ) → c < length l.row → at l.row c
          ≡ fold cell_unless_other_null (most_frequent (non_null_cells
          (cells_at_column c (map (λ cells. cells.items) l.arguments))))
          (take l.other-index (cells_at_column c (map (λ cells. cells.items) l.arguments)));
    }
