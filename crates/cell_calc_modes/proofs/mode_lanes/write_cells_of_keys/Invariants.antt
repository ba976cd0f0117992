use Rattle.std.proofs.Common.{◌≡◌, ◌<◌, ◌+◌, ℕ, get_or}
use Rattle.cell_calc_modes.specs.ColumnCells.{at}
use Rattle.cell_calc_modes.specs.parts.ModeLanes.{cell_denoted_by_key}
use Rattle.cell_calc_modes.proofs.mode_lanes.write_cells_of_keys.Given as goal

abbrev pub invariant-loop-k : goal.invariant-loop-k
invariant-loop-k l =
    record {
      before : (j : ℕ) → j < l.c → at l.row j ≡ at l.initial.row j;
      done : (j : ℕ) → j < l.k → at l.row (l.c + j) ≡ cell_denoted_by_key (get_or l.keys j 0);
    }
