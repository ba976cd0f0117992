use Rattle.std.proofs.Common.{◌≡◌, ◌<◌, ◌+◌, ℕ, length, get_or}
use Rattle.cell_calc_modes.specs.ColumnCells.{at}
use Rattle.cell_calc_modes.specs.parts.ModeLanes.{cell_denoted_by_key}
use Rattle.cell_calc_modes.proofs.mode_lanes.keys_of_row_at_column.Given as goal

abbrev pub invariant-loop-k : goal.invariant-loop-k
invariant-loop-k l =
    record {
      long : length l.keys ≡ 16;
      done : (j : ℕ) → j < l.k → cell_denoted_by_key (get_or l.keys j 0) ≡ at l.cells (l.c + j);
    }
