use Rattle.std.proofs.Common.{◌≡◌, ◌<◌, ◌≤◌, ◌+◌, ℕ, length, None}
use Rattle.cell_calc.specs.RowValues.{at}
use Rattle.cell_calc.proofs.rows.copy_cells_shifted_right.Given as goal

abbrev pub invariant-loop-i : goal.invariant-loop-i
invariant-loop-i l =
    record {
      done : (c : ℕ) → c < l.i → at l.row (c + l.skip) ≡ at l.source c;
      before : (c : ℕ) → c < l.skip → c < length l.row → at l.row c ≡ None;
      rest : (c : ℕ) → l.i + l.skip ≤ c → c < length l.row → at l.row c ≡ None;
    }
