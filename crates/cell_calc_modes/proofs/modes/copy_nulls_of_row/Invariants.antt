use Rattle.std.proofs.Common.{◌≡◌, ◌<◌, ◌≤◌, ℕ}
use Rattle.cell_calc_modes.specs.parts.Modes.{cell_unless_other_null}
use Rattle.cell_calc_modes.specs.ColumnCells.{at}
use Rattle.cell_calc_modes.proofs.modes.copy_nulls_of_row.Given as goal

abbrev pub invariant-loop-i : goal.invariant-loop-i
invariant-loop-i l =
    record {
      done : (c : ℕ) → c < l.i → at l.row c ≡ cell_unless_other_null (at l.initial.row c) (at l.other c);
      rest : (c : ℕ) → l.i ≤ c → at l.row c ≡ at l.initial.row c;
    }
