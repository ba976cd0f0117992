use Rattle.std.proofs.Common.{◌≡◌, ◌<◌, ◌≤◌, ℕ}
use Rattle.cell_calc.specs.RowValues.{at}
use Rattle.cell_calc.proofs.rows.combine_rows.Given as goal

abbrev pub invariant-loop-i : goal.invariant-loop-i
invariant-loop-i g l =
    record {
      done : (c : ℕ) → c < l.i → goal.F-post g l.f (at l.initial.row c) (at l.other c) (at l.row c);
      rest : (c : ℕ) → l.i ≤ c → at l.row c ≡ at l.initial.row c;
    }
