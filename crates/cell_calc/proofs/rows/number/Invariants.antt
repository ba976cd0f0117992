use Rattle.std.proofs.Common.{◌≡◌, ◌<◌, ◌+◌, ℕ, pos, Some}
use Rattle.cell_calc.specs.RowValues.{at}
use Rattle.cell_calc.proofs.rows.number.Given as goal

abbrev pub invariant-loop-i : goal.invariant-loop-i
invariant-loop-i l =
    record {
      done : (c : ℕ) → c < l.i → at l.row c ≡ Some (pos (l.from + c + 1));
    }
