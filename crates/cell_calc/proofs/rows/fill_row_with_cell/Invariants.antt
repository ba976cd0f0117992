use Rattle.std.proofs.Common.{◌≡◌, ◌<◌, ℕ}
use Rattle.cell_calc.specs.RowValues.{at}
use Rattle.cell_calc.proofs.rows.fill_row_with_cell.Given as goal

abbrev pub invariant-loop-i : goal.invariant-loop-i
invariant-loop-i l =
    record {
      done : (c : ℕ) → c < l.i → at l.row c ≡ l.cell;
    }
